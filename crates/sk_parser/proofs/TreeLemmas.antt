-- Units, runs and segments that are taken one by one.
use Rattle.std.proofs.Common.{◌≡◌, Bool, true, false, cond, ◌==◌, List, [], ◌∷◌, ◌++◌, length, map, reverse, filter, refl, sym, ap, ◌∙◌, append_assoc, arith}
use Rattle.std.proofs.lemmas.Bool.Decides.{nat_tests}
use Rattle.std.proofs.lemmas.List.{length-reverse, reverse-reverse}
use Rattle.sk_base.specs.declared.find.Join.{Join}
use Rattle.sk_query.specs.Trees.{Tree}
use Rattle.sk_grammar.specs.Parts.{Part, unit}
use Rattle.sk_grammar.specs.Runs.{Unit, is_hated, queries_of, base_of, groups_after, filtered, excluding, units_tree, run_tree}
use Rattle.sk_grammar.specs.Meaning.{Run, run_trees, parts_tree, closed_part}
use Rattle.sk_parser.specs.Base.{leads, follows, base_from}

-- The first of these apart.
first_passes : {X : Type 0} (f : X → Tree) (test : X → Bool) (u : X) (rest : List X) → map f (filter test (u ∷ rest)) ≡ map f (filter test (u ∷ [])) ++ map f (filter test rest)
first_passes f test u rest = by_test (test u)
  where
    by_test : (b : Bool) → map f (cond b (u ∷ filter test rest) (filter test rest)) ≡ map f (cond b (u ∷ []) []) ++ map f (filter test rest)
    by_test true = refl
    by_test false = refl

-- One more of these is placed.
more_passes : {X : Type 0} (f : X → Tree) (test : X → Bool) (all : List Tree) (made more : List Tree) (u : X) (rest : List X)
    → more ≡ made ++ map f (filter test (u ∷ [])) → made ++ map f (filter test (u ∷ rest)) ≡ all → more ++ map f (filter test rest) ≡ all
more_passes f test all made more u rest e h =
    let seam : (made ++ map f (filter test (u ∷ []))) ++ map f (filter test rest) ≡ made ++ (map f (filter test (u ∷ [])) ++ map f (filter test rest)) = simp append_assoc in
    ap (λ xs. xs ++ map f (filter test rest)) e ∙ seam ∙ ap (λ xs. made ++ xs) (sym (first_passes f test u rest)) ∙ h

pub units_more : (test : Unit → Bool) (all : List Tree) (made more : List Tree) (u : Unit) (rest : List Unit) → more ≡ made ++ queries_of test (u ∷ [])
    → made ++ queries_of test (u ∷ rest) ≡ all → more ++ queries_of test rest ≡ all
units_more test all made more u rest e h = more_passes Unit.query test all made more u rest e h

pub runs_more : (join : Join) (test : Run → Bool) (all : List Tree) (made more : List Tree) (r : Run) (rest : List Run) → more ≡ made ++ run_trees join test (r ∷ [])
    → made ++ run_trees join test (r ∷ rest) ≡ all → more ++ run_trees join test rest ≡ all
runs_more join test all made more r rest e h = more_passes (λ (run : Run). run_tree join run.inside) test all made more r rest e h

-- The base by what leads and what follows.
pub base_is : (join : Join) (us : List Unit) → base_from join (queries_of (leads join) us) (queries_of (follows join) us) ≡ base_of join us
base_is Join.Or us = refl
base_is Join.And us = refl

-- Units that are there.
pub units_some : (join : Join) (us : List Unit) → (length us == 0) ≡ false
    → excluding (filtered (base_of join us) (groups_after [] us)) (queries_of is_hated us) ≡ units_tree join us
units_some join [] e = absurd (cc)
units_some join (u ∷ us) e = refl

-- A bracket with something inside.
pub closed_some : (join : Join) (ps : List Part) → (length ps == 0) ≡ false → unit (parts_tree join ps) ≡ closed_part join (reverse ps)
closed_some join ps e = from_last (reverse ps) refl
  where
    from_last : (rs : List Part) → reverse ps ≡ rs → unit (parts_tree join ps) ≡ closed_part join rs
    from_last [] f = absurd (let none : length ps ≡ 0 = sym (length-reverse ps) ∙ ap length f in none_left none)
      where
        none_left : length ps ≡ 0 → ⊥
        none_left n = let some : (length ps == 0) ≡ true = grind (arith, nat_tests) in let wrong : true ≡ false = sym some ∙ e in cc
    from_last (r ∷ rs) f = ap (λ xs. unit (parts_tree join xs)) (sym (reverse-reverse ps) ∙ ap reverse f)
