-- Terms that stand near or as a phrase are an and of them, and a test.
use Rattle.std.proofs.Common.{◌≡◌, ◌≢◌, ◌⊎◌, ◌≤◌, ◌<◌, ◌+◌, ◌&&◌, ℕ, Bool, true, false, List, [], ◌∷◌, length, map, cond, Option, None, Some, is_some, refl, sym, subst, ap, ◌∙◌, arith, if◌then◌else◌, inl, inr}
use mathlib.Core.Bool.{true≢false}
use Rattle.std.specs.List.{list_all}
use Rattle.std.proofs.lemmas.Bool.{cases_eq, and_from, and_parts, or_parts}
use Rattle.std.proofs.lemmas.Bool.Decides.{nat_tests}
use Rattle.sk_base.specs.declared.find.Scheme.{Scheme}
use Rattle.sk_base.specs.declared.doc_entry.DocTerm.{DocTerm}
use Rattle.sk_base.specs.Documents.{has_term, wdf_of, positions_of}
use Rattle.sk_base.specs.Numbers.{Docs, length_of, some_has}
use Rattle.sk_sorted.specs.Entries.{AreSorted, from, has}
use Rattle.sk_sorted.proofs.EntryLaws.{found-here, found-other}
use Rattle.sk_dict.specs.Terms.{term_at, number_of}
use Rattle.sk_query.specs.declared.form.Form.{Form}
use Rattle.sk_query.specs.Fits.{are_given, is_window, are_sound, leaves_in}
use Rattle.sk_base.specs.Terms.{is_given}
use Rattle.sk_model.specs.Documents.{Document}
use Rattle.sk_model.specs.Edits.{document_at}
use Rattle.sk_model.specs.Weights.{weigh_by}
use Rattle.sk_model.specs.Combining.{both, sum_of_all, where_so}
use Rattle.sk_model.specs.Scores.{score, scores, terms_weight, weight_if, places_of}
use Rattle.sk_model.specs.Bounds.{sum_in, terms_ceil, lengths_of, ceils}
use Rattle.sk_model.specs.Allowance.{leaves_readings}
use Rattle.sk_model.proofs.HeldLaws.{Have, near_have, phrase_have}
use Rattle.sk_index.specs.Indexed.{Indexed, term_positions, AreNumbered}
use Rattle.sk_nodes.specs.declared.top.Top.{Top}
use Rattle.sk_nodes.specs.declared.proximity.ProximityKind.{ProximityKind}
use Rattle.sk_nodes.specs.declared.proximity.Proximity.{Proximity}
use Rattle.sk_nodes.specs.declared.leaf.ListOf.{ListOf}
use Rattle.sk_nodes.specs.Leaves.{list_in}
use Rattle.sk_nodes.specs.Shapes.{Shape}
use Rattle.sk_nodes.specs.Left.{rest}
use Rattle.sk_nodes.specs.Sound.{Sound, IsPositional}
use Rattle.sk_tree.specs.Opened.{part_count, score_of, joint_score_of, parts_size, term_trees, AreParts, Opens, proximity_query, numbered}
use Rattle.sk_nodes.specs.Begun.{Yields}
use Rattle.sk_nodes.specs.Repeats.{HaveSame, AreRunEnds}
use Rattle.sk_nodes.specs.Proximity.{stand, holds_in, entries_unread, AreThere, AreInOrder, IsInAll, IsFollowed, IsTestOf}
use Rattle.sk_index.proofs.NumberLemmas.{length-postings}
use Rattle.sk_nodes.proofs.ListLaws.{wdf_at, found-postings}
use Rattle.sk_nodes.proofs.BegunLaws.{from_zero}

-- ---- terms as parts

given_sound : (factor : ℕ) (ts : List (List ℕ)) → list_all is_given ts ≡ true → are_sound factor (term_trees ts) ≡ true
given_sound factor [] e = refl
given_sound factor (t ∷ ts) e = let here = and_parts (is_given t) (list_all is_given ts) e in and_from (is_given t) (are_sound factor (term_trees ts)) here.0 (given_sound factor ts here.1)

pub terms_some : (window : ℕ) (ts : List (List ℕ)) → (is_window window && are_given ts) ≡ true → 1 ≤ length ts
terms_some window [] e = absurd (true≢false (sym (and_parts (is_window window) false e).1))
terms_some window (t ∷ ts) e = omega arith

pub terms_wide : (window : ℕ) (ts : List (List ℕ)) → (is_window window && are_given ts) ≡ true → 1 ≤ window
terms_wide window ts e = least (and_parts (is_window window) (are_given ts) e).0
  where
    least : is_window window ≡ true → 1 ≤ window
    least e = grind (arith, nat_tests)

pub terms_leaves : (ts : List (List ℕ)) → leaves_in (term_trees ts) ≡ length ts
terms_leaves [] = refl
terms_leaves (t ∷ ts) = let more = terms_leaves ts in omega (arith, more)

pub terms_size : (ts : List (List ℕ)) → parts_size (term_trees ts) ≡ length ts
terms_size [] = refl
terms_size (t ∷ ts) = let more = terms_size ts in omega (arith, more)

pub terms_readings : (ts : List (List ℕ)) (docs : Docs) → leaves_readings (term_trees ts) docs ≡ lengths_of ts docs
terms_readings [] docs = refl
terms_readings (t ∷ ts) docs = let more = terms_readings ts docs in omega (arith, more)

pub terms_ceils : (ts : List (List ℕ)) (scheme : Scheme) (factor : ℕ) (docs : Docs) → sum_in (ceils (term_trees ts) scheme factor docs) ≡ terms_ceil scheme factor ts docs
terms_ceils [] scheme factor docs = refl
terms_ceils (t ∷ ts) scheme factor docs = let more = terms_ceils ts scheme factor docs in omega (arith, more)

count_terms : (ts : List (List ℕ)) → part_count (term_trees ts) ≡ length ts
count_terms [] = refl
count_terms (t ∷ ts) = let more = count_terms ts in omega (arith, more)

pub terms_are : (factor window : ℕ) (ts : List (List ℕ)) → (is_window window && are_given ts) ≡ true → length ts ≤ 1024 → AreParts Form.And factor (term_trees ts)
terms_are factor window ts e few = record {
  some = omega (arith, count_terms ts, terms_some window ts e);
  sound = sound ts e;
  leaves = omega (arith, terms_leaves ts, few);
}
  where
    sound : (ts : List (List ℕ)) → (is_window window && are_given ts) ≡ true → are_sound factor (term_trees ts) ≡ true
    sound [] e = refl
    sound (t ∷ ts) e =
        given_sound factor (t ∷ ts) (and_parts (Rattle.std.proofs.Common.nat_lt 0 (length (t ∷ ts))) (list_all is_given (t ∷ ts)) (and_parts (is_window window) (are_given (t ∷ ts)) e).1).1

-- ---- scores

both_of : (b : Bool) (w : ℕ) (o : Option ℕ) (v : ℕ) → b ≡ true → o ≡ Some v → both (weight_if b w) o ≡ Some (w + v)
both_of true w None v e f = cc
both_of true w (Some u) v e f = cc
both_of false w o v e f = cc

all_scores : (scheme : Scheme) (factor : ℕ) (d : Document) (ts : List (List ℕ)) → Have d.terms ts → sum_of_all (scores (term_trees ts) scheme factor d) ≡ Some (terms_weight scheme factor ts d.terms)
all_scores scheme factor d [] have = refl
all_scores scheme factor d (t ∷ ts) have =
    both_of (has_term t d.terms) (weigh_by factor scheme (wdf_of t d.terms)) (sum_of_all (scores (term_trees ts) scheme factor d)) (terms_weight scheme factor ts d.terms) have.0 (all_scores scheme factor d ts have.1)

both_some : (b : Bool) (w : ℕ) (o : Option ℕ) (v : ℕ) → both (weight_if b w) o ≡ Some v → (b ≡ true) × (u : ℕ) × (o ≡ Some u)
both_some true w None v e = cc
both_some true w (Some u) v e = (refl, u, refl)
both_some false w o v e = cc

all_have : (scheme : Scheme) (factor v : ℕ) (d : Document) (ts : List (List ℕ)) → sum_of_all (scores (term_trees ts) scheme factor d) ≡ Some v → Have d.terms ts
all_have scheme factor v d [] e = tt
all_have scheme factor v d (t ∷ ts) e =
    let some = both_some (has_term t d.terms) (weigh_by factor scheme (wdf_of t d.terms)) (sum_of_all (scores (term_trees ts) scheme factor d)) v e in
    (some.0, all_have scheme factor some.1 d ts some.2)

stand_have : (kind : ProximityKind) (window : ℕ) (terms : List DocTerm) (ts : List (List ℕ)) → stand kind window (places_of ts terms) ≡ true → Have terms ts
stand_have ProximityKind.Near window terms ts e = near_have window terms ts e
stand_have ProximityKind.Phrase window terms ts e = phrase_have window terms ts e

proximity_score : (kind : ProximityKind) (window : ℕ) (ts : List (List ℕ)) (scheme : Scheme) (factor : ℕ) (d : Document)
    → score (proximity_query kind window ts) scheme factor d ≡ weight_if (stand kind window (places_of ts d.terms)) (terms_weight scheme factor ts d.terms)
proximity_score ProximityKind.Near window ts scheme factor d = refl
proximity_score ProximityKind.Phrase window ts scheme factor d = refl

positional_if : (b : Bool) (o : Option ℕ) (w : ℕ) → (b ≡ true → o ≡ Some w) → where_so b o ≡ weight_if b w
positional_if true o w h = h refl
positional_if false o w h = refl

places_named : (f : ℕ → List ℕ) (ns : List ℕ) (d : Document) → map (λ n. term_positions (f n) (Some d)) ns ≡ places_of (map f ns) d.terms
places_named f [] d = refl
places_named f (n ∷ ns) d = ap (λ (ps : List (List ℕ)). positions_of (f n) d.terms ∷ ps) (places_named f ns d)

-- an and of the terms, and a test of their positions
pub proximity_scores : (i : Indexed) (p : Proximity) (ts : List (List ℕ)) (scheme : Scheme) (factor id : ℕ) → map (term_at i.terms) p.numbers.items ≡ ts
    → where_so (holds_in i p id) (joint_score_of Form.And (term_trees ts) scheme factor (document_at id i.live.documents)) ≡ score_of (proximity_query p.kind p.window ts) scheme factor (document_at id i.live.documents)
proximity_scores i p ts scheme factor id named = by (document_at id i.live.documents)
  where
    none : (b : Bool) → where_so b None ≡ None
    none true = refl
    none false = refl

    by : (o : Option Document) → where_so (stand p.kind p.window (map (λ n. term_positions (term_at i.terms n) o) p.numbers.items)) (joint_score_of Form.And (term_trees ts) scheme factor o)
        ≡ score_of (proximity_query p.kind p.window ts) scheme factor o
    by None = none (stand p.kind p.window (map (λ n. term_positions (term_at i.terms n) None) p.numbers.items))
    by (Some d) =
        ap (λ (ps : List (List ℕ)). where_so (stand p.kind p.window ps) (sum_of_all (scores (term_trees ts) scheme factor d)))
        (places_named (term_at i.terms) p.numbers.items d ∙ ap (λ (us : List (List ℕ)). places_of us d.terms) named)
        ∙ positional_if (stand p.kind p.window (places_of ts d.terms)) (sum_of_all (scores (term_trees ts) scheme factor d)) (terms_weight scheme factor ts d.terms)
        (λ e. all_scores scheme factor d ts (stand_have p.kind p.window d.terms ts e))
        ∙ sym (proximity_score p.kind p.window ts scheme factor d)

-- ---- lists of terms that all are there

has_at : (t : List ℕ) (o : Option Document) (d : Document) → o ≡ Some d → has_term t d.terms ≡ true → is_some (wdf_at t o) ≡ true
has_at t None d e h = cc
has_at t (Some c) d e h = by (has_term t c.terms) refl
  where
    same : c ≡ d
    same = cc

    by : (b : Bool) → has_term t c.terms ≡ b → is_some (if b then Some (wdf_of t c.terms) else None) ≡ true
    by true g = refl
    by false g = absurd (true≢false (sym h ∙ ap (λ (x : Document). has_term t x.terms) (sym same) ∙ g))

in_all : (i : Indexed) (id : ℕ) (d : Document) (ns : List ℕ) → AreSorted i.live.documents → document_at id i.live.documents ≡ Some d → Have d.terms (map (term_at i.terms) ns) → IsInAll i id ns
in_all i id d [] sorted e have = tt
in_all i id d (n ∷ ns) sorted e have = (
  ap is_some (found-postings (term_at i.terms n) 0 id i.live.documents sorted.rise) ∙ has_at (term_at i.terms n) (document_at id i.live.documents) d e have.0,
  in_all i id d ns sorted e have.1,
)

-- what an and of the terms gives is in all their lists
pub and_within : (i : Indexed) (ns : List ℕ) (ts : List (List ℕ)) (scheme : Scheme) (factor id w : ℕ) → AreSorted i.live.documents → map (term_at i.terms) ns ≡ ts
    → joint_score_of Form.And (term_trees ts) scheme factor (document_at id i.live.documents) ≡ Some w → IsInAll i id ns
and_within i ns ts scheme factor id w sorted named e = by (document_at id i.live.documents) refl e
  where
    by : (o : Option Document) → document_at id i.live.documents ≡ o → joint_score_of Form.And (term_trees ts) scheme factor o ≡ Some w → IsInAll i id ns
    by None at g = cc
    by (Some d) at g = in_all i id d ns sorted at (subst (λ (us : List (List ℕ)). Have d.terms us) (sym named) (all_have scheme factor w d ts g))

-- ---- terms without a number

pub some_number : (i : Indexed) (t : List ℕ) → is_some (number_of t i.terms) ≡ false → number_of t i.terms ≡ None
some_number i t e = by (number_of t i.terms) refl
  where
    by : (o : Option ℕ) → number_of t i.terms ≡ o → o ≡ None
    by None g = refl
    by (Some n) g = absurd (true≢false (sym (ap is_some g) ∙ e))

none_step : (t : List ℕ) (one : ℕ × Document) (more : Docs) (id : ℕ) (d : Document) → has_term t one.1.terms ≡ false → document_at id (one ∷ more) ≡ Some d → (document_at id more ≡ Some d → has_term t d.terms ≡ false)
    → has_term t d.terms ≡ false
none_step t one more id d none e rest = by (cases_eq one.0 id)
  where
    same_doc : Some one.1 ≡ Some d → one.1 ≡ d
    same_doc g = cc

    by : (one.0 ≡ id) ⊎ (one.0 ≢ id) → has_term t d.terms ≡ false
    by (inl same) = ap (λ (x : Document). has_term t x.terms) (sym (same_doc (sym (found-here id one more same) ∙ e))) ∙ none
    by (inr other) = rest (sym (found-other id one more other) ∙ e)

pub has_none : (t : List ℕ) (docs : Docs) (id : ℕ) (d : Document) → some_has t docs ≡ false → document_at id docs ≡ Some d → has_term t d.terms ≡ false
has_none t [] id d none e = absurd (some_not_none d e)
  where
    some_not_none : (d : Document) → None ≡ Some d → ⊥
    some_not_none d e = cc
has_none t (one ∷ more) id d none e =
    let parts = or_parts (has_term t one.1.terms) (some_has t more) none in
    none_step t one more id d parts.0 e (λ f. has_none t more id d parts.1 f)

-- terms that a document has all have a number
numbers_step : (i : Indexed) (id : ℕ) (d : Document) (t : List ℕ) (ts : List (List ℕ)) → AreNumbered i → document_at id i.live.documents ≡ Some d → has_term t d.terms ≡ true → length (numbered i ts) ≡ length ts
    → length (numbered i (t ∷ ts)) ≡ length (t ∷ ts)
numbers_step i id d t ts complete at has more = by (is_some (number_of t i.terms)) refl
  where
    by : (b : Bool) → is_some (number_of t i.terms) ≡ b → length (cond b (t ∷ numbered i ts) (numbered i ts)) ≡ length (t ∷ ts)
    by true e = omega (arith, more)
    by false e = absurd (true≢false (sym has ∙ has_none t i.live.documents id d (complete t (some_number i t e)) at))

have_numbers : (i : Indexed) (id : ℕ) (d : Document) (ts : List (List ℕ)) → AreNumbered i → document_at id i.live.documents ≡ Some d → Have d.terms ts → length (numbered i ts) ≡ length ts
have_numbers i id d [] complete at have = refl
have_numbers i id d (t ∷ ts) complete at have = numbers_step i id d t ts complete at have.0 (have_numbers i id d ts complete at have.1)

pub missing_none : (i : Indexed) (kind : ProximityKind) (window : ℕ) (ts : List (List ℕ)) (scheme : Scheme) (factor id : ℕ) → AreNumbered i
    → length (numbered i ts) < length ts → None ≡ score_of (proximity_query kind window ts) scheme factor (document_at id i.live.documents)
missing_none i kind window ts scheme factor id complete less = by (document_at id i.live.documents) refl
  where
    if_none : (b : Bool) (w : ℕ) → (b ≡ true → ⊥) → None ≡ weight_if b w
    if_none true w h = absurd (h refl)
    if_none false w h = refl

    by : (o : Option Document) → document_at id i.live.documents ≡ o → None ≡ score_of (proximity_query kind window ts) scheme factor o
    by None at = refl
    by (Some d) at =
        if_none (stand kind window (places_of ts d.terms)) (terms_weight scheme factor ts d.terms)
        (λ e. let all = have_numbers i id d ts complete at (stand_have kind window d.terms ts e) in omega (arith, all, less))
        ∙ sym (proximity_score kind window ts scheme factor d)

kept_less : (b : Bool) (t : List ℕ) (us : List (List ℕ)) (n : ℕ) → length us ≤ n → length (cond b (t ∷ us) us) ≤ 1 + n
kept_less true t us n le = omega (arith, le)
kept_less false t us n le = omega (arith, le)

numbered_less : (i : Indexed) (ts : List (List ℕ)) → length (numbered i ts) ≤ length ts
numbered_less i [] = omega arith
numbered_less i (t ∷ ts) = omega (arith, kept_less (is_some (number_of t i.terms)) t (numbered i ts) (length ts) (numbered_less i ts))

kept_all : (b : Bool) (t : List ℕ) (us ts : List (List ℕ)) → length us ≤ length ts → (length ts ≤ length us → us ≡ ts) → length (t ∷ ts) ≤ length (cond b (t ∷ us) us) → cond b (t ∷ us) us ≡ t ∷ ts
kept_all true t us ts less same h = ap (λ (vs : List (List ℕ)). t ∷ vs) (same (omega (arith, h)))
kept_all false t us ts less same h = absurd (omega (arith, h, less))

pub numbered_all : (i : Indexed) (ts : List (List ℕ)) → length ts ≤ length (numbered i ts) → numbered i ts ≡ ts
numbered_all i [] le = refl
numbered_all i (t ∷ ts) le = kept_all (is_some (number_of t i.terms)) t (numbered i ts) ts (numbered_less i ts) (λ more. numbered_all i ts more) le

named_length : (f : ℕ → List ℕ) (ns : List ℕ) → length (map f ns) ≡ length ns
named_length f [] = refl
named_length f (n ∷ ns) = let more = named_length f ns in omega (arith, more)

-- fewer numbers than terms: one of these has none
pub fewer_numbers : (i : Indexed) (ns : List ℕ) (ts : List (List ℕ)) → map (term_at i.terms) ns ≡ numbered i ts → length ns < length ts → length (numbered i ts) < length ts
fewer_numbers i ns ts e lt = omega (arith, ap length e, named_length (term_at i.terms) ns, lt)

-- as many: each has one
pub all_numbered : (i : Indexed) (ns : List ℕ) (ts : List (List ℕ)) → map (term_at i.terms) ns ≡ numbered i ts → length ts ≤ length ns → map (term_at i.terms) ns ≡ ts
all_numbered i ns ts e le = e ∙ numbered_all i ts (omega (arith, ap length e, named_length (term_at i.terms) ns, le))

pub entries_all : (i : Indexed) (ns : List ℕ) → entries_unread i 0 ns ≡ lengths_of (map (term_at i.terms) ns) i.live.documents
entries_all i [] = refl
entries_all i (n ∷ ns) =
    let more = entries_all i ns in
    let one : length (from 0 (list_in i (ListOf.Term n))) ≡ length_of (term_at i.terms n) i.live.documents = ap length (from_zero (list_in i (ListOf.Term n))) ∙ length-postings (term_at i.terms n) i.live.documents in
    omega (arith, more, one)

-- ---- the node of an and, and a test

-- what has to be read for a new test
pub test_unread : (i : Indexed) (kind : ProximityKind) (window : ℕ) (ns : List ℕ) (p : Proximity) → IsTestOf kind window ns p → entries_unread i p.next p.numbers.items ≡ entries_unread i 0 ns
test_unread i kind window ns p is = ap (λ n. entries_unread i n p.numbers.items) is.next ∙ ap (λ (ms : List ℕ). entries_unread i 0 ms) is.numbers

module _ (i : Indexed) (kind : ProximityKind) (window : ℕ) (ns : List ℕ) (p : Proximity) (is : IsTestOf kind window ns p) (ts : List (List ℕ)) (scheme : Scheme) (factor most : ℕ) (named : map (term_at i.terms) ns ≡ ts) where
  -- a test before its first document
  pub test_opened : (t : Top) (s : Shape) → (is_window window && are_given ts) ≡ true → AreThere i ns → AreInOrder i ns → AreSorted i.live.documents
      → Opens i t s (joint_score_of Form.And (term_trees ts) scheme factor) most → IsPositional i p t s (Sound i s)
  test_opened t s given there sorted documents opens = record {
    test = record {
      some = omega (arith, terms_some window ts given, ap length named, named_length (term_at i.terms) ns, ap length is.numbers);
      wide = omega (arith, terms_wide window ts given, is.window);
      marks = omega (arith, is.marks, ap length is.numbers);
      places = omega (arith, is.places, ap length is.numbers);
      there = subst (λ (ms : List ℕ). AreThere i ms) (sym is.numbers) there;
      sorted = subst (λ (ms : List ℕ). AreInOrder i ms) (sym is.numbers) sorted;
      once = subst (λ (ms : List ℕ). HaveSame ms p.once.items) (sym is.numbers) is.once;
      ends = subst (λ (ms : List ℕ). AreRunEnds p.ends.items ms) (sym is.numbers) is.ends;
      pair = subst (λ (ms : List ℕ). IsFollowed p.pair ms) (sym is.numbers) is.pair;
    };
    top = opens.top;
    sound = opens.sound;
    within = λ id w e. subst (λ (ms : List ℕ). IsInAll i id ms) (sym is.numbers) (and_within i ns ts scheme factor id w documents named (sym (opens.gives id) ∙ e));
    ahead = omega (arith, is.next);
    small = omega (arith, is.next);
    known = λ lt. absurd (omega (arith, lt, is.next));
  }

  test_scores : (id : ℕ) → where_so (holds_in i p id) (joint_score_of Form.And (term_trees ts) scheme factor (document_at id i.live.documents)) ≡ score_of (proximity_query kind window ts) scheme factor (document_at id i.live.documents)
  test_scores id =
      proximity_scores i p ts scheme factor id (ap (map (term_at i.terms)) is.numbers ∙ named)
      ∙ ap (λ k. score_of (proximity_query k p.window ts) scheme factor (document_at id i.live.documents)) is.kind ∙ ap (λ w. score_of (proximity_query kind w ts) scheme factor (document_at id i.live.documents)) is.window

  -- what passes it is what the terms score that stand so
  pub proximity_opened : (below t : Top) (s r : Shape) → Opens i below s (joint_score_of Form.And (term_trees ts) scheme factor) most → most ≡ terms_ceil scheme factor ts i.live.documents
      → Yields i t r (λ id. where_so (holds_in i p id) (rest i s id)) below.greatest → Opens i t r (score_of (proximity_query kind window ts) scheme factor) (terms_ceil scheme factor ts i.live.documents)
  proximity_opened below t s r opens bound h = record {
    top = h.top;
    sound = h.sound;
    gives = λ id. h.gives id ∙ ap (where_so (holds_in i p id)) (opens.gives id) ∙ test_scores id;
    ceiling = omega (arith, h.ceiling, opens.ceiling, bound);
  }
