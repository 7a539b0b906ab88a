-- How nodes of two lists of which one fades are opened.
use Rattle.std.proofs.Common.{◌≡◌, ◌≤◌, ◌<◌, ◌+◌, ◌^◌, ◌⊎◌, ◌++◌, ◌&&◌, ℕ, nat_lt, cond, Bool, true, false, if◌then◌else◌, List, [], ◌∷◌, length, count_by, Option, None, Some, inl, inr, refl, sym, subst, ap, ◌∙◌, arith}
use Rattle.std.specs.List.{cons_option}
use Rattle.std.proofs.lemmas.List.{length-append}
use Rattle.std.proofs.lemmas.List.Sums.{sum_by-cons}
use Rattle.sk_base.specs.declared.find.Scheme.{Scheme}
use Rattle.sk_base.specs.Documents.{has_term, wdf_of}
use Rattle.sk_base.specs.Numbers.{Docs}
use Rattle.sk_dict.specs.Terms.{term_at}
use Rattle.sk_query.specs.declared.form.Form.{Form}
use Rattle.sk_query.specs.Trees as Trees
use Rattle.sk_model.specs.Documents.{Document}
use Rattle.sk_model.specs.Bounds.{term_ceil}
use Rattle.sk_model.specs.Sharp.{past, terms_in}
use Rattle.sk_index.specs.Indexed.{Indexed, postings}
use Rattle.sk_index.proofs.NumberLemmas.{length-postings, count_to-postings}
use Rattle.sk_nodes.specs.declared.top.Top.{Top}
use Rattle.sk_nodes.specs.declared.leaf.ListOf.{ListOf}
use Rattle.sk_nodes.specs.Leaves.{list_in, leaf_greatest}
use Rattle.sk_nodes.specs.Shapes.{Shape, ended, pair}
use Rattle.sk_tree.specs.Nests.{SplitsTerms}
use Rattle.sk_nodes.specs.Led.{count_behind}
use Rattle.sk_nodes.specs.Begun.{OpensLone, Begins}
use Rattle.sk_tree.specs.Opened.{part_count, is_nest}
use Rattle.sk_nodes.specs.Fading.{IsFading}
use Rattle.sk_nodes.specs.Accounts.{Keeps}
use Rattle.sk_nodes.specs.Moved.{fading_account}
use Rattle.sk_tree.specs.OpenedFading.{OpensAlone, OpensDecay, OpensFading}
use Rattle.sk_tree.proofs.TermLaws.{greatest-term}
use Rattle.sk_tree.proofs.LedLaws.{terms_count}

-- how many documents that have a term stand behind an id
count_behind-postings : (t : List ℕ) (id : ℕ) (docs : Docs) → count_behind id (postings t docs) ≡ past t id docs
count_behind-postings t id [] = refl
count_behind-postings t id (one ∷ more) = by (has_term t one.1.terms) refl (count_behind-postings t id more)
  where
    none : (n : ℕ) → n ≡ 0 + n
    none n = omega arith

    by : (b : Bool) → has_term t one.1.terms ≡ b → count_behind id (postings t more) ≡ past t id more
        → count_behind id (cons_option (if b then Some (one.0, wdf_of t one.1.terms) else None) (postings t more)) ≡ count_by (λ (x : ℕ × Document). has_term t x.1.terms && nat_lt id x.0) (one ∷ more)
    by true e rest = ap (λ n. cond (nat_lt id one.0) 1 0 + n) rest
        ∙ ap (λ b. cond (b && nat_lt id one.0) 1 0 + past t id more) (sym e) ∙ sym (sum_by-cons (λ (x : ℕ × Document). cond (has_term t x.1.terms && nat_lt id x.0) 1 0) one more)
    by false e rest = rest ∙ none (past t id more) ∙ ap (λ b. cond (b && nat_lt id one.0) 1 0 + past t id more) (sym e) ∙ sym (sum_by-cons (λ (x : ℕ × Document). cond (has_term t x.1.terms && nat_lt id x.0) 1 0) one more)

-- that of the term with a number
pub numbered_alone : (i : Indexed) (t : Top) (s : Shape) (number factor : ℕ) (scheme : Scheme) (before after : ℕ) → Begins i t s (list_in i (ListOf.Term number)) (leaf_greatest factor scheme (list_in i (ListOf.Term number))) → OpensLone i t s (length (list_in i (ListOf.Term number))) before after
    → OpensAlone i t s (term_at i.terms number) (term_ceil scheme factor (term_at i.terms number) i.live.documents) before after
numbered_alone i t s number factor scheme before after begins lone = record {
  stands = begins.stands;
  own = omega (arith, begins.own, greatest-term factor scheme (term_at i.terms number) i.live.documents);
  to = λ point. let le = begins.to point in omega (arith, le, count_to-postings (term_at i.terms number) point i.live.documents);
  behind = λ point. let le = begins.behind point in omega (arith, le, count_behind-postings (term_at i.terms number) point i.live.documents);
  few = lone.few;
  paid = omega (arith, lone.paid, length-postings (term_at i.terms number) i.live.documents);
}

-- nothing, for a term that no document has
pub none_alone : (i : Indexed) (t : Top) (s : Shape) (term : List ℕ) (greatest spent : ℕ) → t.head ≡ 2 ^ 32 → s ≡ ended → OpensAlone i t s term greatest spent spent
none_alone i t s term greatest spent end is = subst (λ (s : Shape). OpensAlone i t s term greatest spent spent) (sym is) (record {
  stands = record { lone = tt; at = end };
  own = omega arith;
  to = λ point. omega arith;
  behind = λ point. omega arith;
  few = omega arith;
  paid = omega arith;
})

pub named_alone : (i : Indexed) (t : Top) (s : Shape) (x y : List ℕ) (factor : ℕ) (scheme : Scheme) (before after : ℕ) → x ≡ y → OpensAlone i t s x (term_ceil scheme factor x i.live.documents) before after → OpensAlone i t s y (term_ceil scheme factor y i.live.documents) before after
named_alone i t s x y factor scheme before after e opens = subst (λ (u : List ℕ). OpensAlone i t s u (term_ceil scheme factor u i.live.documents) before after) e opens

pub term_alone : (i : Indexed) (t : Top) (s : Shape) (query : Trees.Tree) (x y : List ℕ) (factor : ℕ) (scheme : Scheme) (before after : ℕ) → query ≡ Trees.term x → query ≡ Trees.term y
    → OpensAlone i t s x (term_ceil scheme factor x i.live.documents) before after → OpensAlone i t s y (term_ceil scheme factor y i.live.documents) before after
term_alone i t s query x y factor scheme before after e f opens = named_alone i t s x y factor scheme before after (same (sym e ∙ f)) opens
  where
    same : Trees.term x ≡ Trees.term y → x ≡ y
    same e = cc

-- ---- an or of two terms

module _ (i : Indexed) (scheme : Scheme) (factor : ℕ) (ta : Top) (a : Shape) (tb : Top) (b : Shape) (s : Shape) (s0 s1 s2 s3 : ℕ) (fades : (point greatest : ℕ) (first : Bool) → Keeps (fading_account i point greatest first) 0 s2 s3 (pair Form.Or ta a tb b) s) where
  -- the second side fades
  second_decays : (x y : List ℕ) → OpensAlone i ta a x (term_ceil scheme factor x i.live.documents) s0 s1 → OpensAlone i tb b y (term_ceil scheme factor y i.live.documents) s1 s2 → OpensDecay i scheme factor s x y s0 s3
  second_decays x y one two point =
      let g = term_ceil scheme factor y i.live.documents in
      let h : IsFading i g true (pair Form.Or ta a tb b) = (tt, (one.stands, (two.stands, two.own))) in
      let keeps = fades point g true in
      let paid = keeps.paid h (omega arith) in
      let most = one.behind point in
      let below = two.to point in
      (true, (keeps.kind h, omega (arith, paid, one.paid, two.few, most, below)))

  -- the first side fades
  first_decays : (x y : List ℕ) → OpensAlone i ta a x (term_ceil scheme factor x i.live.documents) s0 s1 → OpensAlone i tb b y (term_ceil scheme factor y i.live.documents) s1 s2 → OpensDecay i scheme factor s y x s0 s3
  first_decays x y one two point =
      let g = term_ceil scheme factor x i.live.documents in
      let h : IsFading i g false (pair Form.Or ta a tb b) = (tt, (one.stands, (two.stands, one.own))) in
      let keeps = fades point g false in
      let paid = keeps.paid h (omega arith) in
      let most = two.behind point in
      let below = one.to point in
      (false, (keeps.kind h, omega (arith, paid, two.paid, one.few, most, below)))

  pub pair_decays : (x y : List ℕ) → OpensAlone i ta a x (term_ceil scheme factor x i.live.documents) s0 s1 → OpensAlone i tb b y (term_ceil scheme factor y i.live.documents) s1 s2 → OpensFading i scheme factor s x y s0 s3
  pair_decays x y one two = (second_decays x y one two, first_decays x y one two)

one_each : (xs ys : List (List ℕ)) (x y : List ℕ) → 0 < length xs → 0 < length ys → xs ++ ys ≡ x ∷ y ∷ [] → (xs ≡ x ∷ []) × (ys ≡ y ∷ [])
one_each [] ys x y some more e = absurd (omega (arith, some))
one_each (u ∷ []) [] x y some more e = absurd (omega (arith, more))
one_each (u ∷ []) (v ∷ []) x y some more e = (cc, cc)
one_each (u ∷ []) (v ∷ w ∷ ys) x y some more e = absurd (omega (arith, ap length e))
one_each (u ∷ v ∷ xs) ys x y some more e = absurd (omega (arith, ap length e, length-append xs ys, more))

-- the terms of the two pieces
pub split_decays : (i : Indexed) (scheme : Scheme) (factor : ℕ) (form other : Form) (ta : Top) (a : Shape) (tb : Top) (b : Shape) (s : Shape) (fs bs : Trees.Trees) (x y : List ℕ) (s0 s1 s2 s3 : ℕ) → form ≡ Form.Or → 0 < part_count fs → 0 < part_count bs
    → ((t : List ℕ) → terms_in fs ≡ Some (t ∷ []) → OpensAlone i ta a t (term_ceil scheme factor t i.live.documents) s0 s1)
    → ((t : List ℕ) → terms_in bs ≡ Some (t ∷ []) → OpensAlone i tb b t (term_ceil scheme factor t i.live.documents) s1 s2)
    → ((point greatest : ℕ) (first : Bool) → Keeps (fading_account i point greatest first) 0 s2 s3 (pair form ta a tb b) s) → SplitsTerms (x ∷ y ∷ []) (terms_in fs) (terms_in bs) → OpensFading i scheme factor s x y s0 s3
split_decays i scheme factor form other ta a tb b s fs bs x y s0 s1 s2 s3 is some more one two fades split = by split.whole
  where
    first_some : 0 < length split.first
    first_some = let n = terms_count fs split.first split.front_is in omega (arith, n.0, some)

    second_some : 0 < length split.second
    second_some = let n = terms_count bs split.second split.back_is in omega (arith, n.0, more)

    or_fades : (point greatest : ℕ) (first : Bool) → Keeps (fading_account i point greatest first) 0 s2 s3 (pair Form.Or ta a tb b) s
    or_fades point greatest first = subst (λ (f : Form). Keeps (fading_account i point greatest first) 0 s2 s3 (pair f ta a tb b) s) is (fades point greatest first)

    by : (x ∷ y ∷ [] ≡ split.first ++ split.second) ⊎ (x ∷ y ∷ [] ≡ split.second ++ split.first) → OpensFading i scheme factor s x y s0 s3
    by (inl e) =
        let each = one_each split.first split.second x y first_some second_some (sym e) in
        pair_decays i scheme factor ta a tb b s s0 s1 s2 s3 or_fades x y (one x (split.front_is ∙ ap Some each.0)) (two y (split.back_is ∙ ap Some each.1))
    by (inr e) =
        let each = one_each split.second split.first x y second_some first_some (sym e) in
        let both = pair_decays i scheme factor ta a tb b s s0 s1 s2 s3 or_fades y x (one y (split.front_is ∙ ap Some each.1)) (two x (split.back_is ∙ ap Some each.0)) in
        (both.1, both.0)

-- one part alone has one term
pub one_alone : (ts : Trees.Trees) (t : Trees.Tree) (term : List ℕ) → ts ≡ Trees.tree t Trees.no_trees → terms_in ts ≡ Some (term ∷ []) → t ≡ Trees.term term
one_alone ts t term alone e = by t (ap terms_in (sym alone) ∙ e)
  where
    some : (u : List ℕ) → ◌≡◌ {A = Option (List (List ℕ))} (Some (u ∷ [])) (Some (term ∷ [])) → Trees.term u ≡ Trees.term term
    some u e = cc

    by : (t : Trees.Tree) → terms_in (Trees.tree t Trees.no_trees) ≡ Some (term ∷ []) → t ≡ Trees.term term
    by (Trees.term u) e = some u e
    by _ e = cc

-- and no two
pub one_not_two : (ts : Trees.Trees) (t : Trees.Tree) (x y : List ℕ) → ts ≡ Trees.tree t Trees.no_trees → terms_in ts ≡ Some (x ∷ y ∷ []) → ⊥
one_not_two ts t x y alone e = by t (ap terms_in (sym alone) ∙ e)
  where
    by : (t : Trees.Tree) → terms_in (Trees.tree t Trees.no_trees) ≡ Some (x ∷ y ∷ []) → ⊥
    by (Trees.term u) e = cc
    by _ e = cc

-- several parts have no one term
pub many_not_one : (ts : Trees.Trees) (term : List ℕ) → 2 ≤ part_count ts → terms_in ts ≡ Some (term ∷ []) → ⊥
many_not_one ts term many e = let n = terms_count ts (term ∷ []) e in omega (arith, n.0, many)

-- an xor of three parts or more is no or
pub xor_not_or : (form : Form) (n : ℕ) → is_nest form n ≡ false → form ≡ Form.Or → ⊥
xor_not_or form n e is = other (ap (λ f. is_nest f n) (sym is) ∙ e)
  where
    other : is_nest Form.Or n ≡ false → ⊥
    other e = cc

-- an or of several parts
pub parts_or : (query : Trees.Tree) (form : Form) (ts us : Trees.Trees) → query ≡ Trees.parts form ts → query ≡ Trees.parts Form.Or us → (form ≡ Form.Or) × (ts ≡ us)
parts_or query form ts us e f = same (sym e ∙ f)
  where
    same : Trees.parts form ts ≡ Trees.parts Form.Or us → (form ≡ Form.Or) × (ts ≡ us)
    same e = (cc, cc)
