-- No document weighs more than the bound of its query.
use Rattle.std.proofs.Common.{◌≡◌, ◌<◌, ◌≤◌, ◌+◌, ◌*◌, ◌^◌, ℕ, max, Bool, true, false, ◌&&◌, List, [], ◌∷◌, All, Option, Some, None, IfSome, refl, arith}
use Rattle.std.proofs.lemmas.List.Elements.{All-from_recursion, recursion_from_All}
use Rattle.std.specs.List.{AllByRecursion, AllZip}
use Rattle.sk_base.proofs.Tests.{first_so, second_so}
use Rattle.sk_base.specs.declared.doc.Doc.{Doc}
use Rattle.sk_base.specs.declared.find.Scheme.{Scheme}
use Rattle.sk_base.specs.Documents.{AreTerms}
use Rattle.sk_base.specs.Loads.{load_of, IsLight}
use Rattle.sk_base.specs.Numbers.{Docs}
use Rattle.sk_query.specs.declared.form.Form.{Form}
use Rattle.sk_query.specs.Trees.{Tree, nothing, all, term, wildcard, parts, near, phrase, synonym, scale, range, Trees, no_trees, tree}
use Rattle.sk_query.specs.Fits.{is_sound, are_sound, has_parts, are_given, are_different, is_factor}
use Rattle.sk_model.specs.Combining.{both, either, greater, where_so, with_more, sum_of_all, sum_of_any, greatest_score, first_alone, first_with_more, first_of_all, combined}
use Rattle.sk_model.specs.Scores.{weight_if, score, scores}
use Rattle.sk_model.specs.Bounds.{ceil, ceils, sum_in, greatest_in, first_in, ceil_of}
use Rattle.sk_model.proofs.HeldLaws.{Inside, inside_each, near_have, phrase_have, term_le, terms_le, synonym_le, wild_le}

-- ---- scores that are there

-- the score is no more than this, where it is there
abbrev pub AtMost : Option ℕ → ℕ → Type 0
AtMost o m = IfSome o (λ w. w ≤ m)

pub weight_le : (test : Bool) (w m : ℕ) → (test ≡ true → w ≤ m) → AtMost (weight_if test w) m
weight_le true w m h = h refl
weight_le false w m h = tt

both_le : (a b : Option ℕ) (m n : ℕ) → AtMost a m → AtMost b n → AtMost (both a b) (m + n)
both_le None None m n h g = tt
both_le None (Some w) m n h g = tt
both_le (Some v) None m n h g = tt
both_le (Some v) (Some w) m n h g = omega (arith, h, g)

either_le : (a b : Option ℕ) (m n : ℕ) → AtMost a m → AtMost b n → AtMost (either a b) (m + n)
either_le None None m n h g = tt
either_le None (Some w) m n h g = omega (arith, g)
either_le (Some v) None m n h g = omega (arith, h)
either_le (Some v) (Some w) m n h g = omega (arith, h, g)

greater_le : (a b : Option ℕ) (m n : ℕ) → AtMost a m → AtMost b n → AtMost (greater a b) (max m n)
greater_le None None m n h g = tt
greater_le None (Some w) m n h g = omega (arith, g)
greater_le (Some v) None m n h g = omega (arith, h)
greater_le (Some v) (Some w) m n h g = omega (arith, h, g)

where_le : (test : Bool) (a : Option ℕ) (m : ℕ) → AtMost a m → AtMost (where_so test a) m
where_le true a m h = h
where_le false a m h = tt

more_le : (a b : Option ℕ) (m n : ℕ) → AtMost a m → AtMost b n → AtMost (with_more a b) (m + n)
more_le None b m n h g = tt
more_le (Some v) None m n h g = omega (arith, h)
more_le (Some v) (Some w) m n h g = omega (arith, h, g)

-- ---- scores put together

-- each score is no more than its bound
abbrev pub AllAtMost : List (Option ℕ) → List ℕ → Type 0
AllAtMost scores bounds = AllZip AtMost scores bounds

all_le : (ss : List (Option ℕ)) (bs : List ℕ) → AllAtMost ss bs → AtMost (sum_of_all ss) (sum_in bs)
all_le [] [] h = omega arith
all_le [] (b ∷ bs) h = absurd h
all_le (s ∷ ss) [] h = absurd h
all_le (s ∷ ss) (b ∷ bs) h = both_le s (sum_of_all ss) b (sum_in bs) h.0 (all_le ss bs h.1)

any_le : (ss : List (Option ℕ)) (bs : List ℕ) → AllAtMost ss bs → AtMost (sum_of_any ss) (sum_in bs)
any_le [] [] h = tt
any_le [] (b ∷ bs) h = absurd h
any_le (s ∷ ss) [] h = absurd h
any_le (s ∷ ss) (b ∷ bs) h = either_le s (sum_of_any ss) b (sum_in bs) h.0 (any_le ss bs h.1)

greatest_le : (ss : List (Option ℕ)) (bs : List ℕ) → AllAtMost ss bs → AtMost (greatest_score ss) (greatest_in bs)
greatest_le [] [] h = tt
greatest_le [] (b ∷ bs) h = absurd h
greatest_le (s ∷ ss) [] h = absurd h
greatest_le (s ∷ ss) (b ∷ bs) h = greater_le s (greatest_score ss) b (greatest_in bs) h.0 (greatest_le ss bs h.1)

alone_le : (ss : List (Option ℕ)) (bs : List ℕ) → AllAtMost ss bs → AtMost (first_alone ss) (first_in bs)
alone_le [] bs h = tt
alone_le (s ∷ ss) [] h = absurd h
alone_le (s ∷ ss) (b ∷ bs) h = where_le _ s b h.0

with_more_le : (ss : List (Option ℕ)) (bs : List ℕ) → AllAtMost ss bs → AtMost (first_with_more ss) (sum_in bs)
with_more_le [] bs h = tt
with_more_le (s ∷ ss) [] h = absurd h
with_more_le (s ∷ ss) (b ∷ bs) h = more_le s (sum_of_any ss) b (sum_in bs) h.0 (any_le ss bs h.1)

of_all_le : (ss : List (Option ℕ)) (bs : List ℕ) → AllAtMost ss bs → AtMost (first_of_all ss) (first_in bs)
of_all_le [] bs h = tt
of_all_le (s ∷ ss) [] h = absurd h
of_all_le (s ∷ ss) (b ∷ bs) h = where_le _ s b h.0

-- a query of several weighs no more than its form makes of the bounds of its parts
pub combined_le : (form : Form) (ss : List (Option ℕ)) (bs : List ℕ) → AllAtMost ss bs → AtMost (combined form ss) (ceil_of form bs)
combined_le Form.And ss bs h = all_le ss bs h
combined_le Form.Or ss bs h = any_le ss bs h
combined_le Form.Xor ss bs h = where_le _ (sum_of_any ss) (sum_in bs) (any_le ss bs h)
combined_le Form.Max ss bs h = greatest_le ss bs h
combined_le Form.AndNot ss bs h = alone_le ss bs h
combined_le Form.AndMaybe ss bs h = with_more_le ss bs h
combined_le Form.Filter ss bs h = of_all_le ss bs h

-- ---- what is sound has sound parts

pub third_so : (b c d : Bool) → (b && c && d) ≡ true → d ≡ true
third_so b c d e = second_so (b && c) d e

module _ (scheme : Scheme) (docs : Docs) (d : Doc) (so : Inside docs d) (rising : AreTerms d.terms) (few : load_of d.terms < 2 ^ 29) where
  mutual
    pub score_le : (q : Tree) (above factor : ℕ) → is_sound above q ≡ true → AtMost (score q scheme factor d) (ceil q scheme factor docs)
    score_le nothing above factor e = tt
    score_le all above factor e = omega arith
    score_le (term t) above factor e = weight_le _ _ _ (term_le scheme docs d so factor t)
    score_le (wildcard prefix) above factor e = weight_le _ _ _ (wild_le scheme docs d so few rising factor prefix)
    score_le (parts form ts) above factor e = combined_le form _ _ (scores_le ts above factor (second_so (has_parts ts) (are_sound above ts) e))
    score_le (near window ts) above factor e = weight_le _ _ _ (λ h. terms_le scheme docs d so factor ts (near_have window d.terms ts h))
    score_le (phrase window ts) above factor e = weight_le _ _ _ (λ h. terms_le scheme docs d so factor ts (phrase_have window d.terms ts h))
    score_le (synonym ts) above factor e = weight_le _ _ _ (synonym_le scheme docs d so few factor ts (second_so (are_given ts) (are_different ts) e))
    score_le (scale f t) above factor e = score_le t (above * f) (factor * f) (third_so (is_factor f) (is_factor (above * f)) (is_sound (above * f) t) e)
    score_le (range slot lo hi) above factor e = weight_le _ 0 0 (λ h. omega arith)

    scores_le : (ts : Trees) (above factor : ℕ) → are_sound above ts ≡ true → AllAtMost (scores ts scheme factor d) (ceils ts scheme factor docs)
    scores_le no_trees above factor e = tt
    scores_le (tree t ts) above factor e = (score_le t above factor (first_so (is_sound above t) (are_sound above ts) e), scores_le ts above factor (second_so (is_sound above t) (are_sound above ts) e))

-- each of the documents
each_le : (query : Tree) (scheme : Scheme) (above factor : ℕ) (docs some : Docs) → is_sound above query ≡ true → AllByRecursion (λ (one : ℕ × Doc). Inside docs one.1) some → AllByRecursion (λ (one : ℕ × Doc). AreTerms one.1.terms) some
    → AllByRecursion IsLight some → AllByRecursion (λ (one : ℕ × Doc). IfSome (score query scheme factor one.1) (λ w. w ≤ ceil query scheme factor docs)) some
each_le query scheme above factor docs [] e inside rising few = tt
each_le query scheme above factor docs (one ∷ some) e inside rising few =
    (score_le scheme docs one.1 inside.0 rising.0 few.0 query above factor e, each_le query scheme above factor docs some e inside.1 rising.1 few.1)

-- no document weighs more than the bound of the query
pub score_within : (query : Tree) (scheme : Scheme) (above factor : ℕ) (docs : Docs) → is_sound above query ≡ true → All (λ (one : ℕ × Doc). AreTerms one.1.terms) docs
    → All IsLight docs → All (λ (one : ℕ × Doc). IfSome (score query scheme factor one.1) (λ w. w ≤ ceil query scheme factor docs)) docs
score_within query scheme above factor docs e rising few =
    All-from_recursion (λ (one : ℕ × Doc). IfSome (score query scheme factor one.1) (λ w. w ≤ ceil query scheme factor docs)) docs
    (each_le query scheme above factor docs docs e (inside_each docs) (recursion_from_All (λ (one : ℕ × Doc). AreTerms one.1.terms) docs rising) (recursion_from_All IsLight docs few))
