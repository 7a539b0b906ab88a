-- Values as the map counts them.
use Rattle.std.proofs.Common.{◌≡◌, ◌<◌, ◌≤◌, ◌+◌, ◌^◌, ℕ, Bool, true, false, cond, ◌==◌, List, [], ◌∷◌, ◌++◌, length, bytes_eq, All, IsPermutation, Some, None, length-append, refl, sym, ap, ◌∙◌, subst, arith, true≢false}
use Rattle.std.specs.Prelude.{unwrap_or, is_some, IfOk}
use Rattle.std.specs.declared.result.Result.{Result}
use Rattle.std.specs.declared.result.Result.TheVariants.{Ok, Err}
use Rattle.std.proofs.lemmas.Bool.Decides.{nat_tests}
use Rattle.std.proofs.lemmas.List.{length-map}
use Rattle.std.proofs.lemmas.List.Elements.{All-head, All-tail}
use Rattle.std.proofs.lemmas.List.Sorted.{IsPermutation-refl, IsPermutation-cons, IsPermutation-swap, IsPermutation-trans, IsPermutation-map, length_permutation}
use Rattle.std.proofs.lemmas.List.Sums.{sum_by-cons, sum_by_push, count_by-le-length}
use Rattle.std.proofs.lemmas.Map.Text.{is_eq-slice_cmp}
use Rattle.std.specs.BTreeMap.{insert_entry, is_at}
use Rattle.std.specs.Cmp.Lexicographic.{slice_cmp, bytes_decides}
use Rattle.std.specs.Global.{Global}
use Rattle.std.specs.Map.{lookup, set_value}
use Rattle.std.specs.Ordering.{match_ordering, nat_cmp, is_eq}
use Rattle.std.specs.declared.cmp.Ordering.{Ordering}
use Rattle.std.specs.declared.cmp.Ordering.TheVariants.{Less, Equal, Greater}
use Rattle.std.specs.declared.vec.Vec.{Vec}
use Rattle.sk_base.proofs.Tests.{same_tests}
use Rattle.sk_base.specs.declared.facets.Facet.{Facet}
use Rattle.sk_model.specs.Counting.{raised, in_order}
use Rattle.sk_model.specs.Facets.{times, number_without}
use Rattle.sk_model.specs.Laws.{AreTallied}
use Rattle.sk_model.proofs.FacetLaws.{bit, held, held-cons, IsOf, tallied_permuted, few_facets}
use Rattle.sk_model.proofs.TallyLaws.{tallied_raised, tallied_new, tallied_empty, in_order_permutation, order_counted}
use Rattle.sk_facets.specs.declared.tally.Tally.{Tally}
use Rattle.sk_facets.specs.Tallied.{Entry, facet_in, facets_in, Knows, IsTally, HasRoom}

-- ---- values in another order

alike : (vs ws : List (List ℕ)) (fs : List Facet) → ((w : List ℕ) → times w vs ≡ times w ws) → AreTallied vs fs → AreTallied ws fs
alike vs ws fs same t = record {
  counts = λ k d l. let i_f = t.counts k d l in (i_f.0, i_f.1, i_f.2 ∙ same _);
  whole = λ w some there. t.whole w some (subst (λ n. 0 < n) (sym (same w)) there);
  once = t.once;
}

-- the first value as the last
pub put_behind : (vs : List (List ℕ)) (v : List ℕ) (fs : List Facet) → AreTallied (v ∷ vs) fs → AreTallied (vs ++ v ∷ []) fs
put_behind vs v fs = alike (v ∷ vs) (vs ++ v ∷ []) fs (λ w. omega (arith, sum_by-cons (λ u. cond (bytes_eq w u) 1 0) v vs, sum_by_push (λ u. cond (bytes_eq w u) 1 0) vs v))

without_push : (vs : List (List ℕ)) (v : List ℕ) → number_without (vs ++ v ∷ []) ≡ number_without vs + bit (length v == 0)
without_push vs v = sum_by_push (λ (u : List ℕ). cond (length u == 0) 1 0) vs v

pub without_more : (vs : List (List ℕ)) (v : List ℕ) → (length v == 0) ≡ true → number_without (vs ++ v ∷ []) ≡ number_without vs + 1
without_more vs v e = omega (arith, without_push vs v, ap bit e)

pub without_same : (vs : List (List ℕ)) (v : List ℕ) → (length v == 0) ≡ false → number_without (vs ++ v ∷ []) ≡ number_without vs
without_same vs v e = omega (arith, without_push vs v, ap bit e)

is_none : (n : ℕ) → (n == 0) ≡ true → n ≡ 0
is_none n e = grind (arith, nat_tests)

pub saw_empty : (vs : List (List ℕ)) (v : List ℕ) (fs : List Facet) → (length v == 0) ≡ true → AreTallied vs fs → AreTallied (vs ++ v ∷ []) fs
saw_empty vs v fs e t = put_behind vs v fs (tallied_empty vs v fs (is_none (length v) e) t)

-- ---- the entries of the map

-- the test of a look-up
abbrev pub at : List ℕ → Vec ℕ Global → Bool
at v = is_at (λ j. slice_cmp nat_cmp v j.items)

equal_keys : (v j : List ℕ) → is_eq (slice_cmp nat_cmp v j) ≡ bytes_eq j v
equal_keys v j = is_eq-slice_cmp v j ∙ same_tests (bytes_eq v j) (bytes_eq j v) (λ e. (bytes_decides j v).1 (sym ((bytes_decides v j).0 e))) (λ e. (bytes_decides v j).1 (sym ((bytes_decides j v).0 e)))

some_none : {X : Type 0} (x : X) → Some x ≡ None → ⊥
some_none x e = true≢false (ap is_some e)

some_same : (a b : ℕ) → Some a ≡ Some b → a ≡ b
some_same a b e = ap (λ o. unwrap_or o 0) e

module _ (v : List ℕ) where
  -- one more of a value that is there
  pub raised_in : (n : ℕ) (es : List Entry) → lookup (at v) es ≡ Some n → facets_in (set_value (at v) es (n + 1)) ≡ raised v (facets_in es)
  raised_in n [] h = absurd (some_none n (sym h))
  raised_in n (e ∷ es) h = by (at v e.0) (bytes_eq e.0.items v) (equal_keys v e.0.items) (raised_in n es) h
    where
      by : (a b : Bool) → a ≡ b → (lookup (at v) es ≡ Some n → facets_in (set_value (at v) es (n + 1)) ≡ raised v (facets_in es)) → cond a (Some e.1) (lookup (at v) es) ≡ Some n
          → facets_in (cond a ((e.0, n + 1) ∷ es) (e ∷ set_value (at v) es (n + 1))) ≡ cond b (record { value = e.0.items; count = e.1 + 1 } ∷ facets_in es) (facet_in e ∷ raised v (facets_in es))
      by true true q more g = λ i. record { value = e.0.items; count = sym (some_same e.1 n g) i + 1 } ∷ facets_in es
      by true false q more g = absurd (true≢false q)
      by false true q more g = absurd (true≢false (sym q))
      by false false q more g = ap (λ fs. facet_in e ∷ fs) (more g)

  looked_up : (n : ℕ) (es : List Entry) → lookup (at v) es ≡ Some n → 0 < held v (facets_in es)
  looked_up n [] h = absurd (some_none n (sym h))
  looked_up n (e ∷ es) h = by (at v e.0) (bytes_eq e.0.items v) (equal_keys v e.0.items) refl (looked_up n es) h
    where
      by : (a b : Bool) → a ≡ b → bytes_eq e.0.items v ≡ b → (lookup (at v) es ≡ Some n → 0 < held v (facets_in es)) → cond a (Some e.1) (lookup (at v) es) ≡ Some n → 0 < held v (facets_in (e ∷ es))
      by true true q is more g = omega (arith, held-cons v (facet_in e) (facets_in es), ap bit is)
      by true false q is more g = absurd (true≢false q)
      by false true q is more g = absurd (true≢false (sym q))
      by false false q is more g = omega (arith, held-cons v (facet_in e) (facets_in es), ap bit is, more g)

  not_there : (es : List Entry) → lookup (at v) es ≡ None → held v (facets_in es) ≡ 0
  not_there [] h = refl
  not_there (e ∷ es) h = by (at v e.0) (bytes_eq e.0.items v) (equal_keys v e.0.items) refl (not_there es) h
    where
      by : (a b : Bool) → a ≡ b → bytes_eq e.0.items v ≡ b → (lookup (at v) es ≡ None → held v (facets_in es) ≡ 0) → cond a (Some e.1) (lookup (at v) es) ≡ None → held v (facets_in (e ∷ es)) ≡ 0
      by true b q is more g = absurd (some_none e.1 g)
      by false true q is more g = absurd (true≢false (sym q))
      by false false q is more g = omega (arith, held-cons v (facet_in e) (facets_in es), ap bit is, more g)

  -- what is found is how often the value stands among the values
  times_found : (values : List (List ℕ)) (n : ℕ) (es : List Entry) → All (IsOf values) (facets_in es) → lookup (at v) es ≡ Some n → n ≡ times v values
  times_found values n [] all h = absurd (some_none n (sym h))
  times_found values n (e ∷ es) all h = by (at v e.0) (bytes_eq e.0.items v) (equal_keys v e.0.items) refl (times_found values n es (All-tail (IsOf values) (facet_in e) (facets_in es) all)) h
    where
      by : (a b : Bool) → a ≡ b → bytes_eq e.0.items v ≡ b → (lookup (at v) es ≡ Some n → n ≡ times v values) → cond a (Some e.1) (lookup (at v) es) ≡ Some n → n ≡ times v values
      by true true q is more g = sym (some_same e.1 n g) ∙ (All-head (IsOf values) (facet_in e) (facets_in es) all).2 ∙ ap (λ u. times u values) ((bytes_decides e.0.items v).0 is)
      by true false q is more g = absurd (true≢false q)
      by false b q is more g = more g

  -- there are no more of it than values
  pub found_few : (values : List (List ℕ)) (n : ℕ) (es : List Entry) → AreTallied values (facets_in es) → lookup (at v) es ≡ Some n → n ≤ length values
  found_few values n es t h = omega (arith, times_found values n es t.counts h, count_by-le-length (bytes_eq v) values)

  pub saw_again : (values : List (List ℕ)) (n : ℕ) (old new : List Entry) → lookup (at v) old ≡ Some n → new ≡ set_value (at v) old (n + 1) → AreTallied values (facets_in old) → AreTallied (v ∷ values) (facets_in new)
  saw_again values n old new h is t = subst (AreTallied (v ∷ values)) (sym (ap facets_in is ∙ raised_in n old h)) (tallied_raised values v (facets_in old) (looked_up n old h) t)

-- how keys are compared
abbrev pub cmp : Vec ℕ Global → Vec ℕ Global → Ordering
cmp x y = slice_cmp nat_cmp x.items y.items

swapped : (d e : Entry) (es : List Entry) → IsPermutation (d ∷ e ∷ es) (e ∷ d ∷ es)
swapped d e es = IsPermutation-swap (d ∷ e ∷ es) (e ∷ d ∷ es) 0 1 (omega arith) (omega arith) refl

-- a new key
inserted : (k : Vec ℕ Global) (es : List Entry) → lookup (at k.items) es ≡ None → IsPermutation ((k, 1) ∷ es) (insert_entry cmp es k 1)
inserted k [] h = IsPermutation-refl ((k, 1) ∷ [])
inserted k (e ∷ es) h = by (cmp k e.0) (inserted k es) h
  where
    by : (r : Ordering) → (lookup (at k.items) es ≡ None → IsPermutation ((k, 1) ∷ es) (insert_entry cmp es k 1)) → cond (is_eq r) (Some e.1) (lookup (at k.items) es) ≡ None → IsPermutation ((k, 1) ∷ e ∷ es) (match_ordering r ((k, 1) ∷ e ∷ es) ((e.0, 1) ∷ es) (e ∷ insert_entry cmp es k 1))
    by Less more g = IsPermutation-refl ((k, 1) ∷ e ∷ es)
    by Equal more g = absurd (some_none e.1 g)
    by Greater more g = IsPermutation-trans _ _ _ (swapped (k, 1) e es) (IsPermutation-cons e _ _ (more g))

pub saw_first : (v : List ℕ) (values : List (List ℕ)) (k : Vec ℕ Global) (old new : List Entry) → 0 < length v → k.items ≡ v → lookup (at v) old ≡ None → new ≡ insert_entry cmp old k 1
    → AreTallied values (facets_in old) → AreTallied (v ∷ values) (facets_in new)
saw_first v values k old new given key h is t =
    let there : IsPermutation (facet_in (k, 1) ∷ facets_in old) (facets_in (insert_entry cmp old k 1)) =
    IsPermutation-map facet_in ((k, 1) ∷ old) (insert_entry cmp old k 1) (inserted k old (subst (λ u. lookup (at u) old ≡ None) (sym key) h)) in
    let one : AreTallied (v ∷ values) (facet_in (k, 1) ∷ facets_in old) =
    subst (λ u. AreTallied (v ∷ values) (record { value = u; count = 1 } ∷ facets_in old)) (sym key) (tallied_new values v (facets_in old) given (not_there v old h) t) in
    subst (λ es. AreTallied (v ∷ values) (facets_in es)) (sym is) (tallied_permuted (v ∷ values) _ _ there one)

-- no more are counted than there are values
pub few_tallied : (values : List (List ℕ)) (es : List Entry) → AreTallied values (facets_in es) → length es ≤ length values
few_tallied values es t =
    omega (arith, few_facets values (in_order (facets_in es)) (order_counted values (facets_in es) t), length_permutation (facets_in es) (in_order (facets_in es)) (in_order_permutation (facets_in es)), length-map es facet_in)

-- ---- a tally

pub saw_none : (tally after : Tally) (v : List ℕ) → (length v == 0) ≡ true → after.counts ≡ tally.counts → after.without ≡ tally.without + 1 → after.matches ≡ tally.matches + 1
    → (values : List (List ℕ)) → Knows tally values → Knows after (values ++ v ∷ [])
saw_none tally after v e counts without matches values k = record {
  counts = subst (λ m. AreTallied (values ++ v ∷ []) (facets_in m.entries)) (sym counts) (saw_empty values v _ e k.counts);
  without = omega (arith, without, k.without, without_more values v e);
  matches = omega (arith, matches, k.matches, length-append values (v ∷ []));
}

pub saw_one : (tally after : Tally) (v : List ℕ) → (length v == 0) ≡ false → after.without ≡ tally.without → after.matches ≡ tally.matches + 1
    → ((values : List (List ℕ)) → AreTallied values (facets_in tally.counts.entries) → AreTallied (v ∷ values) (facets_in after.counts.entries))
    → (values : List (List ℕ)) → Knows tally values → Knows after (values ++ v ∷ [])
saw_one tally after v e without matches more values k = record {
  counts = put_behind values v _ (more values k.counts);
  without = omega (arith, without, k.without, without_same values v e);
  matches = omega (arith, matches, k.matches, length-append values (v ∷ []));
}

pub has_room : (tally : Tally) → IsTally tally → tally.matches + 1 < 2 ^ 32 → HasRoom tally.counts.entries
has_room tally is few = (is.0, omega (arith, few, is.1.matches), is.1.counts)

pub few_counted : (tally : Tally) → IsTally tally → length tally.counts.entries ≤ tally.matches
few_counted tally is = omega (arith, few_tallied is.0 tally.counts.entries is.1.counts, is.1.matches)

pub few_without : (tally : Tally) → IsTally tally → tally.without ≤ tally.matches
few_without tally is = omega (arith, is.1.without, is.1.matches, count_by-le-length (λ (v : List ℕ). length v == 0) is.0)

-- what holds of each outcome without an error
pub if_ok : {A B : Type 0} (r : Result A B) (P Q : A → Type 0) → ((a : A) → P a → Q a) → IfOk r P → IfOk r Q
if_ok (Ok a) P Q f h = f a h
if_ok (Err b) P Q f h = tt
