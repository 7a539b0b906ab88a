-- Equal parts of an or or an and score what one of them does under the factor of all.
use Rattle.std.proofs.Common.{◌≡◌, ◌<◌, ◌≤◌, ◌+◌, ◌*◌, ℕ, zero, suc, Bool, true, false, List, [], ◌∷◌, length, slice_index_or, Option, None, Some, IfSome, Bor, inl, inr, refl, sym, subst, ap, ◌∙◌, arith, if◌then◌else◌}
use Rattle.std.specs.List.{list_any}
use Rattle.std.specs.Option.{option_map}
use Rattle.std.proofs.Math.Nat.{mul_assoc}
use Rattle.sk_base.specs.declared.find.Scheme.{Scheme}
use Rattle.sk_base.specs.Documents.{has_term, begins_with}
use Rattle.sk_base.specs.Numbers.{Docs}
use Rattle.sk_base.proofs.Tests.{first_so}
use Rattle.sk_query.specs.declared.form.Form.{Form}
use Rattle.sk_query.specs.declared.query.Query.{Query}
use Rattle.sk_query.specs.Trees as Trees
use Rattle.sk_query.specs.Trees.{query_view, queries_view}
use Rattle.sk_query.specs.Fits.{is_sound, are_sound, leaves_of}
use Rattle.sk_model.specs.Documents.{Document}
use Rattle.sk_model.specs.Combining.{both, either, sum_of_all, sum_of_any, combined}
use Rattle.sk_model.specs.Weights.{weigh}
use Rattle.sk_model.specs.Scores.{weight_if, wild_wdf, wdf_sum, score, scores}
use Rattle.sk_model.specs.Bounds.{sum_in, ceil_of, ceil, ceils, joint_ceil}
use Rattle.sk_model.specs.Allowance.{leaf_readings}
use Rattle.sk_model.specs.Sharp.{terms_in}
use Rattle.sk_index.specs.Indexed.{Indexed}
use Rattle.sk_nodes.specs.declared.top.Top.{Top}
use Rattle.sk_nodes.specs.Shapes.{Shape}
use Rattle.sk_tree.specs.Opened.{AreParts, part_count, query_size, score_of, joint_score_of}
use Rattle.sk_tree.specs.OpenedAccounts.{OpensParts}
use Rattle.sk_tree.specs.OpenedLed.{first_length, last_length, SplitsLed}
use Rattle.sk_tree.proofs.CountLaws.{counted}
use Rattle.sk_tree.proofs.OpenLaws.{joined}
use Rattle.sk_tree.proofs.LedLaws.{turns_led}
use Rattle.sk_tree.specs.Equal.{IsAsOne, IsAdding, AllAre, AreEqual, AreAsOne}

-- a score so many times
abbrev times : ℕ → Option ℕ → Option ℕ
times n s = option_map (λ v. v * n) s

-- ---- one query under a greater factor

weight_times : (test : Bool) (w factor n : ℕ) → weight_if test (w * (factor * n)) ≡ times n (weight_if test (w * factor))
weight_times true w factor n = ap Some (sym (mul_assoc w factor n))
weight_times false w factor n = refl

bound_times : (test : Bool) (w factor n : ℕ) → (if test then w * (factor * n) else 0) ≡ (if test then w * factor else 0) * n
bound_times true w factor n = sym (mul_assoc w factor n)
bound_times false w factor n = omega arith

score_times : (query : Trees.Tree) (scheme : Scheme) (factor n : ℕ) (d : Document) → IsAsOne query → score query scheme (factor * n) d ≡ times n (score query scheme factor d)
score_times (Trees.wildcard prefix) scheme factor n d one = weight_times (list_any (λ t. begins_with t.term prefix) d.terms) (weigh scheme (wild_wdf prefix d.terms)) factor n
score_times (Trees.synonym ts) scheme factor n d one = weight_times (list_any (λ t. has_term t d.terms) ts) (weigh scheme (wdf_sum ts d.terms)) factor n
score_times _ scheme factor n d one = absurd one

joint_times : (scheme : Scheme) (factor n long greatest : ℕ) → joint_ceil scheme (factor * n) long greatest ≡ joint_ceil scheme factor long greatest * n
joint_times scheme factor n long greatest = bound_times _ _ factor n

ceil_times : (query : Trees.Tree) (scheme : Scheme) (factor n : ℕ) (docs : Docs) → IsAsOne query → ceil query scheme (factor * n) docs ≡ ceil query scheme factor docs * n
ceil_times (Trees.wildcard prefix) scheme factor n docs one = joint_times scheme factor n _ _
ceil_times (Trees.synonym ts) scheme factor n docs one = joint_times scheme factor n _ _
ceil_times _ scheme factor n docs one = absurd one

sound_under : (query : Trees.Tree) (factor all : ℕ) → IsAsOne query → is_sound factor query ≡ true → is_sound all query ≡ true
sound_under (Trees.wildcard prefix) factor all one sound = sound
sound_under (Trees.synonym ts) factor all one sound = sound
sound_under _ factor all one sound = absurd one

-- ---- not all parts are terms

one_none : (query : Trees.Tree) (ts : Trees.Trees) → IsAsOne query → terms_in (Trees.tree query ts) ≡ None
one_none (Trees.wildcard prefix) ts one = refl
one_none (Trees.synonym words) ts one = refl
one_none _ ts one = absurd one

more_none : (query : Trees.Tree) (ts : Trees.Trees) → terms_in ts ≡ None → terms_in (Trees.tree query ts) ≡ None
more_none (Trees.term t) ts e = ap (option_map (λ more. t ∷ more)) e
more_none _ ts e = refl

pub none_at : (qs : List Query) (k : ℕ) (q d : Query) → k < length qs → q ≡ slice_index_or qs k d → IsAsOne (query_view q) → terms_in (queries_view qs) ≡ None
none_at [] k q d lt is one = absurd (omega (arith, lt))
none_at (p ∷ qs) zero q d lt is one = one_none (query_view p) (queries_view qs) (subst (λ (x : Query). IsAsOne (query_view x)) is one)
none_at (p ∷ qs) (suc k) q d lt is one = more_none (query_view p) (queries_view qs) (none_at qs k q d (omega (arith, lt)) is one)

-- ---- equal scores put together

either_once : (s : Option ℕ) → either s None ≡ times 1 s
either_once None = refl
either_once (Some v) = let e : v ≡ v * 1 = omega arith in ap Some e

both_once : (s : Option ℕ) → both s (Some 0) ≡ times 1 s
both_once None = refl
both_once (Some v) = let e : v + 0 ≡ v * 1 = omega arith in ap Some e

one_more : (v n : ℕ) → v + v * n ≡ v * (1 + n)
one_more v n = omega arith

either_more : (n : ℕ) (s : Option ℕ) → either s (times n s) ≡ times (1 + n) s
either_more n None = refl
either_more n (Some v) = ap Some (one_more v n)

both_more : (n : ℕ) (s : Option ℕ) → both s (times n s) ≡ times (1 + n) s
both_more n None = refl
both_more n (Some v) = ap Some (one_more v n)

module _ (query : Trees.Tree) (scheme : Scheme) (factor : ℕ) where
  any_of : (ts : Trees.Trees) (d : Document) → AllAre query ts → 0 < part_count ts → sum_of_any (scores ts scheme factor d) ≡ times (part_count ts) (score query scheme factor d)
  any_of Trees.no_trees d all some = absurd (omega (arith, some))
  any_of (Trees.tree t Trees.no_trees) d all some = either_once (score t scheme factor d) ∙ ap (λ q. times 1 (score q scheme factor d)) all.0
  any_of (Trees.tree t (Trees.tree u us)) d all some =
      (λ i. either (score (all.0 i) scheme factor d) (any_of (Trees.tree u us) d all.1 (omega arith) i)) ∙ either_more (part_count (Trees.tree u us)) (score query scheme factor d)

  all_of : (ts : Trees.Trees) (d : Document) → AllAre query ts → 0 < part_count ts → sum_of_all (scores ts scheme factor d) ≡ times (part_count ts) (score query scheme factor d)
  all_of Trees.no_trees d all some = absurd (omega (arith, some))
  all_of (Trees.tree t Trees.no_trees) d all some = both_once (score t scheme factor d) ∙ ap (λ q. times 1 (score q scheme factor d)) all.0
  all_of (Trees.tree t (Trees.tree u us)) d all some =
      (λ i. both (score (all.0 i) scheme factor d) (all_of (Trees.tree u us) d all.1 (omega arith) i)) ∙ both_more (part_count (Trees.tree u us)) (score query scheme factor d)

  sum_of_ceils : (ts : Trees.Trees) (docs : Docs) → AllAre query ts → sum_in (ceils ts scheme factor docs) ≡ ceil query scheme factor docs * part_count ts
  sum_of_ceils Trees.no_trees docs all = omega arith
  sum_of_ceils (Trees.tree t ts) docs all =
      (λ i. ceil (all.0 i) scheme factor docs + sum_of_ceils ts docs all.1 i) ∙ one_more (ceil query scheme factor docs) (part_count ts)

  joint_of : (form : Form) (ts : Trees.Trees) (o : Option Document) → IsAdding form → IsAsOne query → AllAre query ts → 0 < part_count ts → joint_score_of form ts scheme factor o ≡ score_of query scheme (factor * part_count ts) o
  joint_of form ts None adding one all some = refl
  joint_of form ts (Some d) (inl is) one all some = ap (λ f. combined f (scores ts scheme factor d)) is ∙ any_of ts d all some ∙ sym (score_times query scheme factor (part_count ts) d one)
  joint_of form ts (Some d) (inr is) one all some = ap (λ f. combined f (scores ts scheme factor d)) is ∙ all_of ts d all some ∙ sym (score_times query scheme factor (part_count ts) d one)

  ceil_in : (form : Form) (ts : Trees.Trees) (docs : Docs) → IsAdding form → IsAsOne query → AllAre query ts → ceil_of form (ceils ts scheme factor docs) ≡ ceil query scheme (factor * part_count ts) docs
  ceil_in form ts docs (inl is) one all = ap (λ f. ceil_of f (ceils ts scheme factor docs)) is ∙ sum_of_ceils ts docs all ∙ sym (ceil_times query scheme factor (part_count ts) docs one)
  ceil_in form ts docs (inr is) one all = ap (λ f. ceil_of f (ceils ts scheme factor docs)) is ∙ sum_of_ceils ts docs all ∙ sym (ceil_times query scheme factor (part_count ts) docs one)

-- ---- equal parts as one

are_as_one : (form : Form) (factor : ℕ) (ts : Trees.Trees) (query : Trees.Tree) (all : ℕ) → IsAdding form → AreEqual query ts → all ≡ factor * part_count ts → AreParts form factor ts → AreAsOne form factor ts query all
are_as_one form factor Trees.no_trees query all adding equal is are = absurd (omega (arith, are.some))
are_as_one form factor (Trees.tree t us) query all adding equal is are =
    let first = equal.all.0 in
    record {
      part = record {
        sound = sound_under query factor all equal.one (subst (λ (q : Trees.Tree). is_sound factor q ≡ true) first (first_so (is_sound factor t) (are_sound factor us) are.sound));
        leaves = omega (arith, ap leaves_of first, are.leaves);
      };
      size = omega (arith, ap query_size first);
      scores = λ scheme o. joint_of query scheme factor form (Trees.tree t us) o adding equal.one equal.all are.some ∙ ap (λ n. score_of query scheme n o) (sym is);
      ceiling = λ scheme docs. ceil_in query scheme factor form (Trees.tree t us) docs adding equal.one equal.all ∙ ap (λ n. ceil query scheme n docs) (sym is);
      readings = λ docs. omega (arith, ap (λ q. leaf_readings q docs) first);
      others = ap (λ q. terms_in (Trees.tree q us)) first ∙ one_none query us equal.one;
    }

-- the same of a list of queries
as_one_of : (form : Form) (factor : ℕ) (parts : List Query) (query : Trees.Tree) (all : ℕ) → IsAdding form → AreEqual query (queries_view parts) → all ≡ factor * length parts → AreParts form factor (queries_view parts) → AreAsOne form factor (queries_view parts) query all
as_one_of form factor parts query all adding equal is are = are_as_one form factor (queries_view parts) query all adding equal (is ∙ ap (λ n. factor * n) (sym (counted parts))) are

-- and where they were looked for
pub found_as_one : (form : Form) (factor : ℕ) (parts : List Query) (found : Option (Bor Query × ℕ)) → IfSome found (λ p. IsAdding form) → IfSome found (λ p. AreEqual (query_view p.0.now) (queries_view parts)) → IfSome found (λ p. p.1 ≡ factor * length parts)
    → IfSome found (λ p. AreParts form factor (queries_view parts) → AreAsOne form factor (queries_view parts) (query_view p.0.now) p.1)
found_as_one form factor parts None adding equal is = tt
found_as_one form factor parts (Some p) adding equal is = λ are. as_one_of form factor parts (query_view p.0.now) p.1 adding equal is are

-- that are not all terms
pub not_terms : (ts : Trees.Trees) (lists : List (List ℕ)) → terms_in ts ≡ None → terms_in ts ≡ Some lists → ⊥
not_terms ts lists none terms = by (sym none ∙ terms)
  where
    by : ◌≡◌ {A = Option (List (List ℕ))} None (Some lists) → ⊥
    by f = cc

-- parts that are not terms alone
pub other_parts : (i : Indexed) (form : Form) (ts : Trees.Trees) (scheme : Scheme) (factor : ℕ) (t : Top) (s : Shape) (before after : ℕ) → terms_in ts ≡ None → OpensParts i form ts scheme factor t s before after
other_parts i form ts scheme factor t s before after none = record {
  nest = λ lists joint e. absurd (not_terms ts lists none e);
  led = λ lists can e. absurd (not_terms ts lists none e);
  follows = λ lists so e. absurd (not_terms ts lists none e);
  alone = λ term e. absurd (not_terms ts (term ∷ []) none e);
  fading = λ x y or e. absurd (not_terms ts (x ∷ y ∷ []) none e);
}

-- a run of equal parts leads in no and of terms
pub run_led : (ts fs bs : Trees.Trees) (lists : List (List ℕ)) (docs : Docs) (run : ℕ) → ts ≡ joined fs bs → terms_in ts ≡ Some lists → part_count fs ≡ run → 1 ≤ run → 0 < part_count bs → (1 < run → terms_in ts ≡ None)
    → last_length lists docs < first_length lists docs → SplitsLed Form.And lists docs (terms_in bs) (terms_in fs)
run_led ts fs bs lists docs zero e terms is some more none lt = absurd (omega (arith, some))
run_led ts fs bs lists docs (suc zero) e terms is some more none lt = turns_led ts fs bs lists docs e terms (omega (arith, is)) more lt
run_led ts fs bs lists docs (suc (suc n)) e terms is some more none lt = absurd (not_terms ts lists (none (omega arith)) terms)
