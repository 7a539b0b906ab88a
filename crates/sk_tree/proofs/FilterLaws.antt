-- What filters all documents scores what it does under the factor 0.
use Rattle.std.proofs.Common.{◌≡◌, ◌≤◌, ◌+◌, ◌*◌, ◌==◌, ℕ, Bool, true, false, ◌&&◌, List, [], ◌∷◌, map, Option, None, Some, is_some, unwrap_or, refl, sym, subst, ap, ◌∙◌, arith, if◌then◌else◌}
use Rattle.std.specs.List.{list_any}
use Rattle.std.specs.Option.{option_map}
use Rattle.sk_base.specs.declared.find.Scheme.{Scheme}
use Rattle.sk_base.specs.declared.doc_entry.DocTerm.{DocTerm}
use Rattle.sk_base.specs.Documents.{has_term, wdf_of, value_in, begins_with}
use Rattle.sk_base.specs.Numbers.{Docs, length_of, greatest_of}
use Rattle.sk_base.proofs.Tests.{first_so, second_so}
use Rattle.sk_query.specs.declared.form.Form.{Form}
use Rattle.sk_query.specs.Trees as Trees
use Rattle.sk_query.specs.Fits.{is_factor, has_parts, is_sound, are_sound}
use Rattle.sk_model.specs.Documents.{Document}
use Rattle.sk_model.specs.Combining.{both, either, greater, sum_of_all, sum_of_any, greatest_score, number_matching, where_so, with_more, is_odd, combined}
use Rattle.sk_model.specs.Weights.{weigh, weigh_by}
use Rattle.sk_model.specs.Positions.{is_near, is_phrase}
use Rattle.sk_model.specs.Ranges.{end_of, is_within}
use Rattle.sk_model.specs.Scores.{weight_if, wild_wdf, wdf_sum, terms_weight, places_of, score, scores}
use Rattle.sk_model.specs.Bounds.{sum_in, greatest_in, first_in, ceil_of, ceil, ceils, joint_ceil, term_ceil, terms_ceil}
use Rattle.sk_tree.specs.Opened.{AreParts, score_of, joint_score_of}
use Rattle.sk_tree.specs.Equal.{AreAsOne}

-- a score without its weight
abbrev unweighed : Option ℕ → Option ℕ
unweighed s = option_map (λ v. 0) s

-- ---- scores put together

is_there : (s : Option ℕ) → is_some (unweighed s) ≡ is_some s
is_there None = refl
is_there (Some v) = refl

both_zero : (s r : Option ℕ) → both (unweighed s) (unweighed r) ≡ unweighed (both s r)
both_zero None r = refl
both_zero (Some v) None = refl
both_zero (Some v) (Some w) = refl

either_zero : (s r : Option ℕ) → either (unweighed s) (unweighed r) ≡ unweighed (either s r)
either_zero None r = refl
either_zero (Some v) None = refl
either_zero (Some v) (Some w) = refl

greater_zero : (s r : Option ℕ) → greater (unweighed s) (unweighed r) ≡ unweighed (greater s r)
greater_zero None r = refl
greater_zero (Some v) None = refl
greater_zero (Some v) (Some w) = refl

so_zero : (test : Bool) (s : Option ℕ) → where_so test (unweighed s) ≡ unweighed (where_so test s)
so_zero true s = refl
so_zero false s = refl

more_zero : (s r : Option ℕ) → with_more (unweighed s) (unweighed r) ≡ unweighed (with_more s r)
more_zero None r = refl
more_zero (Some v) None = refl
more_zero (Some v) (Some w) = refl

all_zero : (ss : List (Option ℕ)) → sum_of_all (map unweighed ss) ≡ unweighed (sum_of_all ss)
all_zero [] = refl
all_zero (s ∷ ss) = ap (both (unweighed s)) (all_zero ss) ∙ both_zero s (sum_of_all ss)

any_zero : (ss : List (Option ℕ)) → sum_of_any (map unweighed ss) ≡ unweighed (sum_of_any ss)
any_zero [] = refl
any_zero (s ∷ ss) = ap (either (unweighed s)) (any_zero ss) ∙ either_zero s (sum_of_any ss)

greatest_zero : (ss : List (Option ℕ)) → greatest_score (map unweighed ss) ≡ unweighed (greatest_score ss)
greatest_zero [] = refl
greatest_zero (s ∷ ss) = ap (greater (unweighed s)) (greatest_zero ss) ∙ greater_zero s (greatest_score ss)

as_many : (ss : List (Option ℕ)) → number_matching (map unweighed ss) ≡ number_matching ss
as_many [] = refl
as_many (s ∷ ss) = (λ i. (if is_there s i then 1 else 0) + as_many ss i)

joint_zero : (form : Form) (ss : List (Option ℕ)) → combined form (map unweighed ss) ≡ unweighed (combined form ss)
joint_zero Form.And ss = all_zero ss
joint_zero Form.Or ss = any_zero ss
joint_zero Form.Xor ss = (λ i. where_so (is_odd (as_many ss i)) (any_zero ss i)) ∙ so_zero (is_odd (number_matching ss)) (sum_of_any ss)
joint_zero Form.Max ss = greatest_zero ss
joint_zero Form.AndNot [] = refl
joint_zero Form.AndNot (s ∷ ss) = ap (λ n. where_so (n == 0) (unweighed s)) (as_many ss) ∙ so_zero (number_matching ss == 0) s
joint_zero Form.AndMaybe [] = refl
joint_zero Form.AndMaybe (s ∷ ss) = ap (with_more (unweighed s)) (any_zero ss) ∙ more_zero s (sum_of_any ss)
joint_zero Form.Filter [] = refl
joint_zero Form.Filter (s ∷ ss) =
    ap (λ r. where_so (is_some r) (unweighed s)) (all_zero ss)
    ∙ ap (λ test. where_so test (unweighed s)) (is_there (sum_of_all ss))
    ∙ so_zero (is_some (sum_of_all ss)) s

-- ---- one document

weight_zero : (test : Bool) (w factor : ℕ) → weight_if test (w * 0) ≡ unweighed (weight_if test (w * factor))
weight_zero true w factor = let none : w * 0 ≡ 0 = omega arith in ap Some none
weight_zero false w factor = refl

none_zero : (test : Bool) → weight_if test 0 ≡ unweighed (weight_if test 0)
none_zero true = refl
none_zero false = refl

terms_zero : (scheme : Scheme) (ts : List (List ℕ)) (terms : List DocTerm) → terms_weight scheme 0 ts terms ≡ 0
terms_zero scheme [] terms = refl
terms_zero scheme (t ∷ ts) terms = omega (arith, terms_zero scheme ts terms)

placed_zero : (test : Bool) (none some : ℕ) → none ≡ 0 → weight_if test none ≡ unweighed (weight_if test some)
placed_zero true none some e = ap Some e
placed_zero false none some e = refl

mutual
  score_zero : (query : Trees.Tree) (scheme : Scheme) (factor : ℕ) (d : Document) → score query scheme 0 d ≡ unweighed (score query scheme factor d)
  score_zero Trees.nothing scheme factor d = refl
  score_zero Trees.all scheme factor d = refl
  score_zero (Trees.term t) scheme factor d = weight_zero (has_term t d.terms) (weigh scheme (wdf_of t d.terms)) factor
  score_zero (Trees.wildcard prefix) scheme factor d = weight_zero (list_any (λ one. begins_with one.term prefix) d.terms) (weigh scheme (wild_wdf prefix d.terms)) factor
  score_zero (Trees.parts form ts) scheme factor d = ap (combined form) (scores_zero ts scheme factor d) ∙ joint_zero form (scores ts scheme factor d)
  score_zero (Trees.near window ts) scheme factor d = placed_zero (is_near window (places_of ts d.terms)) _ _ (terms_zero scheme ts d.terms)
  score_zero (Trees.phrase window ts) scheme factor d = placed_zero (is_phrase window (places_of ts d.terms)) _ _ (terms_zero scheme ts d.terms)
  score_zero (Trees.synonym ts) scheme factor d = weight_zero (list_any (λ t. has_term t d.terms) ts) (weigh scheme (wdf_sum ts d.terms)) factor
  score_zero (Trees.scale f t) scheme factor d = let none : 0 * f ≡ 0 = omega arith in ap (λ n. score t scheme n d) none ∙ score_zero t scheme (factor * f) d
  score_zero (Trees.range slot lo hi) scheme factor d = none_zero (is_within (end_of lo) (end_of hi) (value_in slot d.values))

  scores_zero : (ts : Trees.Trees) (scheme : Scheme) (factor : ℕ) (d : Document) → scores ts scheme 0 d ≡ map unweighed (scores ts scheme factor d)
  scores_zero Trees.no_trees scheme factor d = refl
  scores_zero (Trees.tree t ts) scheme factor d = (λ i. score_zero t scheme factor d i ∷ scores_zero ts scheme factor d i)

-- ---- no document weighs anything

bound_zero : (test : Bool) (w : ℕ) → (if test then w * 0 else 0) ≡ 0
bound_zero true w = omega arith
bound_zero false w = refl

term_zero : (scheme : Scheme) (t : List ℕ) (docs : Docs) → term_ceil scheme 0 t docs ≡ 0
term_zero scheme t docs = bound_zero _ (weigh scheme (greatest_of t docs))

terms_bound : (scheme : Scheme) (ts : List (List ℕ)) (docs : Docs) → terms_ceil scheme 0 ts docs ≡ 0
terms_bound scheme [] docs = refl
terms_bound scheme (t ∷ ts) docs = (λ i. term_zero scheme t docs i + terms_bound scheme ts docs i)

mutual
  ceil_zero : (query : Trees.Tree) (scheme : Scheme) (docs : Docs) → ceil query scheme 0 docs ≡ 0
  ceil_zero Trees.nothing scheme docs = refl
  ceil_zero Trees.all scheme docs = refl
  ceil_zero (Trees.term t) scheme docs = term_zero scheme t docs
  ceil_zero (Trees.wildcard prefix) scheme docs = bound_zero _ _
  ceil_zero (Trees.parts Form.And ts) scheme docs = sum_zero ts scheme docs
  ceil_zero (Trees.parts Form.Or ts) scheme docs = sum_zero ts scheme docs
  ceil_zero (Trees.parts Form.Xor ts) scheme docs = sum_zero ts scheme docs
  ceil_zero (Trees.parts Form.Max ts) scheme docs = most_zero ts scheme docs
  ceil_zero (Trees.parts Form.AndNot ts) scheme docs = first_zero ts scheme docs
  ceil_zero (Trees.parts Form.AndMaybe ts) scheme docs = sum_zero ts scheme docs
  ceil_zero (Trees.parts Form.Filter ts) scheme docs = first_zero ts scheme docs
  ceil_zero (Trees.near window ts) scheme docs = terms_bound scheme ts docs
  ceil_zero (Trees.phrase window ts) scheme docs = terms_bound scheme ts docs
  ceil_zero (Trees.synonym ts) scheme docs = bound_zero _ _
  ceil_zero (Trees.scale f t) scheme docs = let none : 0 * f ≡ 0 = omega arith in ap (λ n. ceil t scheme n docs) none ∙ ceil_zero t scheme docs
  ceil_zero (Trees.range slot lo hi) scheme docs = refl

  sum_zero : (ts : Trees.Trees) (scheme : Scheme) (docs : Docs) → sum_in (ceils ts scheme 0 docs) ≡ 0
  sum_zero Trees.no_trees scheme docs = refl
  sum_zero (Trees.tree t ts) scheme docs = (λ i. ceil_zero t scheme docs i + sum_zero ts scheme docs i)

  most_zero : (ts : Trees.Trees) (scheme : Scheme) (docs : Docs) → greatest_in (ceils ts scheme 0 docs) ≡ 0
  most_zero Trees.no_trees scheme docs = refl
  most_zero (Trees.tree t ts) scheme docs = omega (arith, ceil_zero t scheme docs, most_zero ts scheme docs)

  first_zero : (ts : Trees.Trees) (scheme : Scheme) (docs : Docs) → first_in (ceils ts scheme 0 docs) ≡ 0
  first_zero Trees.no_trees scheme docs = refl
  first_zero (Trees.tree t ts) scheme docs = ceil_zero t scheme docs

-- ---- a query keeps its conditions

both_so : (a b : Bool) → a ≡ true → b ≡ true → (a && b) ≡ true
both_so a b first second = (λ i. first i && second i)

mutual
  sound_zero : (query : Trees.Tree) (factor : ℕ) → is_sound factor query ≡ true → is_sound 0 query ≡ true
  sound_zero Trees.nothing factor sound = refl
  sound_zero Trees.all factor sound = refl
  sound_zero (Trees.term t) factor sound = sound
  sound_zero (Trees.wildcard prefix) factor sound = sound
  sound_zero (Trees.parts form ts) factor sound =
      both_so (has_parts ts) (are_sound 0 ts) (first_so (has_parts ts) (are_sound factor ts) sound) (sounds_zero ts factor (second_so (has_parts ts) (are_sound factor ts) sound))
  sound_zero (Trees.near window ts) factor sound = sound
  sound_zero (Trees.phrase window ts) factor sound = sound
  sound_zero (Trees.synonym ts) factor sound = sound
  sound_zero (Trees.scale f t) factor sound =
      let none : 0 ≡ 0 * f = omega arith in
      let factors = first_so (is_factor f && is_factor (factor * f)) (is_sound (factor * f) t) sound in
      let below = second_so (is_factor f && is_factor (factor * f)) (is_sound (factor * f) t) sound in
      subst (λ n. (is_factor f && is_factor n && is_sound n t) ≡ true) none
      (both_so (is_factor f && is_factor 0) (is_sound 0 t) (both_so (is_factor f) (is_factor 0) (first_so (is_factor f) (is_factor (factor * f)) factors) refl) (sound_zero t (factor * f) below))
  sound_zero (Trees.range slot lo hi) factor sound = sound

  sounds_zero : (ts : Trees.Trees) (factor : ℕ) → are_sound factor ts ≡ true → are_sound 0 ts ≡ true
  sounds_zero Trees.no_trees factor sound = refl
  sounds_zero (Trees.tree t ts) factor sound =
      both_so (is_sound 0 t) (are_sound 0 ts) (sound_zero t factor (first_so (is_sound factor t) (are_sound factor ts) sound)) (sounds_zero ts factor (second_so (is_sound factor t) (are_sound factor ts) sound))

-- ---- a filter of all documents

-- all documents and what filters them
abbrev filtered : Trees.Tree → Trees.Trees
filtered query = Trees.tree Trees.all (Trees.tree query Trees.no_trees)

filtered_once : (s : Option ℕ) → where_so (is_some (both s (Some 0))) (Some 0) ≡ unweighed s
filtered_once None = refl
filtered_once (Some v) = refl

filtered_score : (query : Trees.Tree) (scheme : Scheme) (factor : ℕ) (o : Option Document) → joint_score_of Form.Filter (filtered query) scheme factor o ≡ score_of query scheme 0 o
filtered_score query scheme factor None = refl
filtered_score query scheme factor (Some d) = filtered_once (score query scheme factor d) ∙ sym (score_zero query scheme factor d)

as_filter : (factor : ℕ) (query : Trees.Tree) → AreParts Form.Filter factor (filtered query) → AreAsOne Form.Filter factor (filtered query) query 0
as_filter factor query are = record {
  part = record { sound = sound_zero query factor (first_so (is_sound factor query) true are.sound); leaves = omega (arith, are.leaves) };
  size = omega arith;
  scores = λ scheme o. filtered_score query scheme factor o;
  ceiling = λ scheme docs. sym (ceil_zero query scheme docs);
  readings = λ docs. omega arith;
  others = refl;
}

-- the same of parts
pub as_filter_of : (factor : ℕ) (form : Form) (ts : Trees.Trees) (query : Trees.Tree) → form ≡ Form.Filter → ts ≡ filtered query → AreParts form factor ts → AreAsOne form factor ts query 0
as_filter_of factor form ts query is parts are =
    let own : AreParts Form.Filter factor (filtered query) = subst (λ f. AreParts f factor (filtered query)) is (subst (λ (us : Trees.Trees). AreParts form factor us) parts are) in
    subst (λ (us : Trees.Trees). AreAsOne form factor us query 0) (sym parts) (subst (λ f. AreAsOne f factor (filtered query) query 0) (sym is) (as_filter factor query own))
