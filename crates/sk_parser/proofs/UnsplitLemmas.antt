-- Parts with no operator at which they are split are one run.
use Rattle.std.proofs.Common.{◌≡◌, ◌||◌, Bool, true, false, if◌then◌else◌, List, [], ◌∷◌, map, refl, sym, ap, ◌∙◌}
use Rattle.std.specs.List.{list_any}
use Rattle.sk_base.specs.declared.find.Join.{Join}
use Rattle.sk_query.specs.declared.form.Form.TheVariants as Form
use Rattle.sk_grammar.specs.declared.token.Kind.{Kind}
use Rattle.sk_grammar.specs.Faults.{is_not}
use Rattle.sk_grammar.specs.Parts.{Part as PartMeant}
use Rattle.sk_grammar.specs.Runs.{joined, run_tree}
use Rattle.sk_grammar.specs.Meaning.{is_and, is_or, is_xor, is_operator, in_front, split, Run, in_run, runs, runs_tree, and_tree, xor_tree, parts_tree}
use Rattle.sk_parser.specs.declared.part.Part.{Part}
use Rattle.sk_parser.specs.Views.{part_view, parts_view, run_of, splits}

left_false : (a b : Bool) → (a || b) ≡ false → a ≡ false
left_false false b e = refl
left_false true b e = cc

right_false : (a b : Bool) → (a || b) ≡ false → b ≡ false
right_false false b e = e
right_false true b e = cc

-- None of these parts is such an operator.
abbrev pub Unsplit : List Part → Type 0
Unsplit ps = list_any (λ p. splits (part_view p)) ps ≡ false

-- What one part is not.
record NoOperator (p : PartMeant) : Type 0 where
  either : is_operator is_or p ≡ false
  odd : is_operator is_xor p ≡ false
  both : is_operator is_and p ≡ false
  without : is_operator is_not p ≡ false

no_operator : (p : PartMeant) → splits p ≡ false → NoOperator p
no_operator p e =
    let a = is_operator is_or p in
    let b = is_operator is_xor p in
    let c = is_operator is_and p in
    let d = is_operator is_not p in
    let behind_or = right_false a (b || (c || d)) e in
    let behind_xor = right_false b (c || d) behind_or in
    record {
      either = left_false a (b || (c || d)) e;
      odd = left_false b (c || d) behind_or;
      both = left_false c d behind_xor;
      without = right_false c d behind_xor;
    }

first_not : (p : Part) (ps : List Part) → Unsplit (p ∷ ps) → NoOperator (part_view p)
first_not p ps e = no_operator (part_view p) (left_false (splits (part_view p)) (list_any (λ q. splits (part_view q)) ps) e)

rest_not : (p : Part) (ps : List Part) → Unsplit (p ∷ ps) → Unsplit ps
rest_not p ps e = right_false (splits (part_view p)) (list_any (λ q. splits (part_view q)) ps) e

whole : (test : Kind → Bool) (p : PartMeant) (ps : List PartMeant) → is_operator test p ≡ false → split test ps ≡ ps ∷ [] → split test (p ∷ ps) ≡ (p ∷ ps) ∷ []
whole test p ps e h = ap (λ (b : Bool). if b then [] ∷ split test ps else in_front p (split test ps)) e ∙ ap (in_front p) h

no_or : (ps : List Part) → Unsplit ps → split is_or (parts_view ps) ≡ parts_view ps ∷ []
no_or [] e = refl
no_or (p ∷ ps) e = whole is_or (part_view p) (parts_view ps) (first_not p ps e).either (no_or ps (rest_not p ps e))

no_xor : (ps : List Part) → Unsplit ps → split is_xor (parts_view ps) ≡ parts_view ps ∷ []
no_xor [] e = refl
no_xor (p ∷ ps) e = whole is_xor (part_view p) (parts_view ps) (first_not p ps e).odd (no_xor ps (rest_not p ps e))

-- What the runs are by the two tests of the first part.
abbrev by_tests : Bool → Bool → Bool → PartMeant → List PartMeant → List Run
by_tests b d fresh p ps =
    if b then (if fresh then runs false true ps else run_of false [] ∷ runs false true ps)
    else (if d then run_of false [] ∷ runs true false ps
    else in_run p (runs false false ps))

one_run : (fresh : Bool) (ps : List Part) → Unsplit ps → runs fresh false (parts_view ps) ≡ run_of false (parts_view ps) ∷ []
one_run fresh [] e = refl
one_run fresh (p ∷ ps) e =
    let q = part_view p in
    let no = first_not p ps e in
    ap (λ (b : Bool). by_tests b (is_operator is_and q) fresh q (parts_view ps)) no.without
    ∙ ap (λ (d : Bool). by_tests false d fresh q (parts_view ps)) no.both
    ∙ ap (in_run q) (one_run false ps (rest_not p ps e))

pub unsplit : (join : Join) (ps : List Part) → Unsplit ps → run_tree join (parts_view ps) ≡ parts_tree join (parts_view ps)
unsplit join ps e =
    sym (ap (runs_tree join) (one_run true ps e))
    ∙ sym (ap (λ all. joined Form.Xor (map (and_tree join) all)) (no_xor ps e))
    ∙ sym (ap (λ all. joined Form.Or (map (xor_tree join) all)) (no_or ps e))
