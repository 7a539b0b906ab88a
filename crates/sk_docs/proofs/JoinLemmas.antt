-- Sorted mentions, and what joining one more to the terms gives.
use Rattle.std.proofs.Common.{◌≡◌, ◌<◌, ◌≤◌, ◌+◌, ◌-◌, ◌^◌, ℕ, zero, suc, Bool, true, false, not, ◌&&◌, List, [], ◌∷◌, ◌++◌, length, get_or, set, fold, refl, sym, ap, subst, ◌∙◌, true≢false, All, AllPairs, arith, bytes_eq}
use mathlib.Core.Logic.{⊎_elim}
use Rattle.std.proofs.lemmas.Bool.{cases_lt}
use Rattle.std.proofs.lemmas.List.{get_or_default, set-get_or}
use Rattle.std.proofs.lemmas.List.Elements.{All-nil, All-head, All-tail, All-cons, All-append, filter_agree}
use Rattle.std.proofs.lemmas.List.Kept.{AllPairs-filter}
use Rattle.std.proofs.lemmas.List.Sorted.{ranks_by, sorted_far, sum_by-IsPermutation}
use Rattle.std.proofs.lemmas.Map.Lookups.{exact_bytes}
use Rattle.std.proofs.lemmas.Map.Text.{is_eq-slice_cmp}
use Rattle.std.specs.Cmp.{IsStrictWeakOrder}
use Rattle.std.specs.Cmp.Lexicographic.{slice_cmp, nat_list_cmp_total, bytes_decides}
use Rattle.std.specs.List.Sorted.{IsPermutation, IsSortedBy, IsStableBy, ties}
use Rattle.std.specs.Ordering.{match_ordering, nat_cmp, ordering_reverse, is_lt, is_eq}
use Rattle.std.specs.declared.cmp.Ordering.{Ordering}
use Rattle.std.specs.declared.cmp.Ordering.TheVariants.{Less, Equal, Greater}
use Rattle.sk_base.specs.declared.doc_entry.DocTerm.{DocTerm}
use Rattle.sk_base.specs.Order.{Precedes}
use Rattle.sk_base.specs.Documents.{AreTerms}
use Rattle.sk_base.specs.Loads.{load_of}
use Rattle.sk_model.specs.Documents.{merged, noted, terms_of, mentions_of}
use Rattle.sk_model.proofs.TermLaws.{terms_rise, turned}
use Rattle.sk_docs.specs.Joined.{LieBefore, Follows, CanJoin}
use Rattle.sk_docs.proofs.PairLemmas.{pairs_head, pairs_tail, pairs_before, pairs_that_tie}
use Rattle.sk_docs.proofs.TermLemmas.{own, same_terms, load-append, load-terms_of, load_is}

-- ---- the sort

-- the order that the mentions are sorted by
abbrev pub is_less : DocTerm → DocTerm → Bool
is_less a b = is_lt (slice_cmp nat_cmp a.term b.term)

pub less_order : IsStrictWeakOrder is_less
less_order = ranks_by nat_list_cmp_total (λ (m : DocTerm). m.term)

tie_step : (r s : Ordering) → s ≡ ordering_reverse r → (not (is_lt s) && not (is_lt r)) ≡ is_eq r
tie_step Less s e = ap (λ q. not (is_lt q) && not (is_lt Less)) e
tie_step Equal s e = ap (λ q. not (is_lt q) && not (is_lt Equal)) e
tie_step Greater s e = ap (λ q. not (is_lt q) && not (is_lt Greater)) e

-- those that tie are of one term
tie_is : (a b : DocTerm) → ties is_less a b ≡ bytes_eq b.term a.term
tie_is a b = tie_step (slice_cmp nat_cmp b.term a.term) (slice_cmp nat_cmp a.term b.term) (nat_list_cmp_total.antisymm a.term b.term) ∙ is_eq-slice_cmp b.term a.term

mentions_kept : (xs ys : List DocTerm) → IsStableBy is_less xs ys → (t : List ℕ) → mentions_of t ys ≡ mentions_of t xs
mentions_kept xs ys stable t =
    let one : DocTerm = record { term = t; wdf = 0; positions = [] } in
    sym (filter_agree (ties is_less one) (λ m. bytes_eq m.term t) (tie_is one) ys) ∙ stable one ∙ filter_agree (ties is_less one) (λ m. bytes_eq m.term t) (tie_is one) xs

-- the sorted mentions make the same terms
pub sorted_terms : (xs ys : List DocTerm) → IsStableBy is_less xs ys → terms_of ys ≡ terms_of xs
sorted_terms xs ys stable = same_terms ys xs (mentions_kept xs ys stable)

pub sorted_load : (xs ys : List DocTerm) → IsPermutation xs ys → load_of ys ≡ load_of xs
sorted_load xs ys moved = load_is ys ∙ sum_by-IsPermutation (λ (m : DocTerm). m.wdf) xs ys moved ∙ sym (load_is xs)

pub sorted_follow : (xs ys : List DocTerm) → AllPairs LieBefore xs → IsStableBy is_less xs ys → IsSortedBy is_less ys → AllPairs Follows ys
sorted_follow xs ys rise stable sorted i j d lt within =
    let a = get_or ys i d in
    let b = get_or ys j d in
    record {
      order = λ less. true≢false (sym (ap is_lt less) ∙ sorted_far is_less less_order ys sorted i j d (omega arith) within);
      places = λ same.
          pairs_that_tie LieBefore (ties is_less) ys (λ x. tie_is x x ∙ own x.term)
          (λ x. subst (AllPairs LieBefore) (sym (stable x)) (AllPairs-filter LieBefore (ties is_less x) xs rise)) i j d lt within
          (tie_is a b ∙ ap (bytes_eq b.term) same ∙ own b.term);
    }

-- ---- one mention more

equal_from : (r : Ordering) → is_eq r ≡ true → r ≡ Equal
equal_from Less h = absurd (true≢false (sym h))
equal_from Equal h = refl
equal_from Greater h = absurd (true≢false (sym h))

equal_cmp : (a b : List ℕ) → a ≡ b → slice_cmp nat_cmp b a ≡ Equal
equal_cmp a b same = equal_from (slice_cmp nat_cmp b a) (is_eq-slice_cmp b a ∙ ap (bytes_eq b) same ∙ own b)

greater : (a b : List ℕ) → Precedes a b → slice_cmp nat_cmp b a ≡ Greater
greater a b h = nat_list_cmp_total.antisymm b a ∙ ap ordering_reverse h

-- it is one of a term that is there
noted_at : (terms : List DocTerm) (m : DocTerm) (k : ℕ) (d : DocTerm) → k < length terms → AreTerms terms → (get_or terms k d).term ≡ m.term
    → set terms k (merged (get_or terms k d) m) ≡ noted terms m
noted_at [] m k d lt rising same = absurd (omega arith)
noted_at (one ∷ more) m zero d lt rising same =
    sym (ap (λ r. match_ordering r (m ∷ one ∷ more) (merged one m ∷ more) (one ∷ noted more m)) (equal_cmp one.term m.term same))
noted_at (one ∷ more) m (suc k) d lt rising same =
    let first : Precedes one.term m.term =
    subst (Precedes one.term) same (pairs_head (λ (a b : DocTerm). Precedes a.term b.term) one more rising k d (omega arith)) in
    ap (λ ts. one ∷ ts) (noted_at more m k d (omega arith) (pairs_tail (λ (a b : DocTerm). Precedes a.term b.term) one more rising) same)
    ∙ sym (ap (λ r. match_ordering r (m ∷ one ∷ more) (merged one m ∷ more) (one ∷ noted more m)) (greater one.term m.term first))

-- the same as the code asks for it, of the last
pub join_last : (terms : List DocTerm) (m last new : DocTerm) (n : ℕ) → 0 < n → n ≡ length terms → AreTerms terms → last ≡ get_or terms (n - 1) last → bytes_eq m.term last.term ≡ true
    → new ≡ merged last m → set terms (n - 1) new ≡ noted terms m
join_last terms m last new n some all rising is own put =
    ap (set terms (n - 1)) (put ∙ ap (λ one. merged one m) is)
    ∙ noted_at terms m (n - 1) last (omega (arith, some, all)) rising (ap (λ (one : DocTerm). one.term) (sym is) ∙ sym ((bytes_decides m.term last.term).0 own))

-- its term stands behind all that are there
noted_behind : (terms : List DocTerm) (m : DocTerm) → All (λ (l : DocTerm). Precedes l.term m.term) terms → terms ++ m ∷ [] ≡ noted terms m
noted_behind [] m behind = refl
noted_behind (one ∷ more) m behind =
    ap (λ ts. one ∷ ts) (noted_behind more m (All-tail (λ (l : DocTerm). Precedes l.term m.term) one more behind))
    ∙ sym (ap (λ r. match_ordering r (m ∷ one ∷ more) (merged one m ∷ more) (one ∷ noted more m)) (greater one.term m.term (All-head (λ (l : DocTerm). Precedes l.term m.term) one more behind)))

precede_step : (l m : DocTerm) (r : Ordering) → slice_cmp nat_cmp l.term m.term ≡ r → Follows l m → (l.term ≡ m.term → ⊥) → Precedes l.term m.term
precede_step l m Less h follows other = h
precede_step l m Equal h follows other = absurd (other (exact_bytes l.term m.term h))
precede_step l m Greater h follows other = absurd (follows.order (turned l.term m.term h))

-- it follows all of them, and is none of the last
noted_last : (terms : List DocTerm) (m : DocTerm) (n : ℕ) (d : DocTerm) → n + 1 ≡ length terms → AreTerms terms → All (λ l. Follows l m) terms → ((get_or terms n d).term ≡ m.term → ⊥)
    → terms ++ m ∷ [] ≡ noted terms m
noted_last terms m n d last rising follows other =
    noted_behind terms m (λ k e lt.
    precede_step (get_or terms k e) m (slice_cmp nat_cmp (get_or terms k e).term m.term) refl (follows k e lt)
    (λ same. ⊎_elim
    (λ before. (follows n e (omega arith)).order (subst (λ t. Precedes t (get_or terms n e).term) same (rising k n e before (omega arith))))
    (λ at_end.
    let here : n ≡ k = omega arith in
    other (ap (λ (x : DocTerm). x.term) (get_or_default terms n d e (omega arith) ∙ ap (λ i. get_or terms i e) here) ∙ same))
    (cases_lt k n)))

-- the same as the code asks for it, of the last
pub push_last : (terms kept : List DocTerm) (m last : DocTerm) (n : ℕ) → 0 < n → n ≡ length terms → AreTerms terms → All (λ l. Follows l m) terms → last ≡ get_or terms (n - 1) last
    → bytes_eq m.term last.term ≡ false → kept ≡ set terms (n - 1) last → kept ++ m ∷ [] ≡ noted terms m
push_last terms kept m last n some all rising follows is other same =
    ap (λ ts. ts ++ m ∷ []) (same ∙ ap (set terms (n - 1)) is ∙ set-get_or terms (n - 1) last)
    ∙ noted_last terms m (n - 1) last (omega (arith, some, all)) rising follows
    (λ its. true≢false (sym ((bytes_decides m.term last.term).1 (sym (ap (λ (one : DocTerm). one.term) is ∙ its))) ∙ other))

pub push_first : (terms : List DocTerm) (m : DocTerm) (n : ℕ) → n ≡ length terms → (0 < n → ⊥) → terms ++ m ∷ [] ≡ noted terms m
push_first [] m n all none = refl
push_first (one ∷ more) m n all none = absurd (none (omega (arith, all)))

pub load_at : (terms : List DocTerm) (k : ℕ) (d : DocTerm) → k < length terms → (get_or terms k d).wdf ≤ load_of terms
load_at [] k d lt = absurd (omega arith)
load_at (one ∷ more) zero d lt = omega arith
load_at (one ∷ more) (suc k) d lt = omega (arith, load_at more k d (omega arith))

-- ---- all mentions, one after the other

joined_follows : (one m z : DocTerm) → one.term ≡ m.term → Follows one z → Follows m z → Follows (merged one m) z
joined_follows one m z same first second = record {
  order = first.order;
  places = λ its k d lt. All-append (λ p. p < get_or z.positions k d) one.positions m.positions (first.places its k d lt) (second.places (sym same ∙ its) k d lt);
}

follows_step : (one m z : DocTerm) (more put : List DocTerm) (r : Ordering) → slice_cmp nat_cmp m.term one.term ≡ r → Follows m z → All (λ l. Follows l z) (one ∷ more) → All (λ l. Follows l z) put
    → All (λ l. Follows l z) (match_ordering r (m ∷ one ∷ more) (merged one m ∷ more) (one ∷ put))
follows_step one m z more put Less h own all rest = All-cons (λ l. Follows l z) m (one ∷ more) own all
follows_step one m z more put Equal h own all rest =
    All-cons (λ l. Follows l z) (merged one m) more (joined_follows one m z (sym (exact_bytes m.term one.term h)) (All-head (λ l. Follows l z) one more all) own)
    (All-tail (λ l. Follows l z) one more all)
follows_step one m z more put Greater h own all rest = All-cons (λ l. Follows l z) one put (All-head (λ l. Follows l z) one more all) rest

noted_follows : (terms : List DocTerm) (m z : DocTerm) → Follows m z → All (λ l. Follows l z) terms → All (λ l. Follows l z) (noted terms m)
noted_follows [] m z own all = All-cons (λ l. Follows l z) m [] own all
noted_follows (one ∷ more) m z own all =
    follows_step one m z more (noted more m) (slice_cmp nat_cmp m.term one.term) refl own all (noted_follows more m z own (All-tail (λ l. Follows l z) one more all))

fold_follows : (terms ms : List DocTerm) (z : DocTerm) → All (λ l. Follows l z) terms → All (λ l. Follows l z) ms → All (λ l. Follows l z) (fold noted terms ms)
fold_follows terms [] z all own = all
fold_follows terms (m ∷ ms) z all own =
    fold_follows (noted terms m) ms z (noted_follows terms m z (All-head (λ l. Follows l z) m ms own) all) (All-tail (λ l. Follows l z) m ms own)

-- the next mention can be joined to the terms of those before it
pub can_join : (done : List DocTerm) (m : DocTerm) (rest all : List DocTerm) → done ++ m ∷ rest ≡ all → AllPairs Follows all → load_of all < 2 ^ 29 → CanJoin (terms_of done) m
can_join done m rest all whole follow light =
    let before = pairs_before Follows done m rest (subst (AllPairs Follows) (sym whole) follow) in
    let sum : load_of done + (m.wdf + load_of rest) ≡ load_of all = sym (load-append done (m ∷ rest)) ∙ ap load_of whole in
    record {
      rising = terms_rise done;
      follows = fold_follows [] done m (All-nil (λ l. Follows l m)) before;
      light = omega (arith, load-terms_of done, sum, light);
    }
