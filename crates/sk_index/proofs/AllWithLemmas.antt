-- The numbers of the terms that begin with a prefix, and the documents' own terms that do.
use Rattle.std.proofs.Common.{◌≡◌, ◌≢◌, ℕ, ◌+◌, Bool, true, false, ◌&&◌, ◌||◌, if◌then◌else◌, List, [], ◌∷◌, sum_by, bytes_eq, Option, None, Some, inl, inr, refl, sym, ap, ◌∙◌, arith}
use mathlib.Core.Bool.{true≢false}
use Rattle.std.specs.List.{AllPairs, AllByRecursion, list_any}
use Rattle.std.proofs.lemmas.Bool.{cases_eq, or_right}
use Rattle.std.proofs.lemmas.List.Sums.{sum_by-cons}
use Rattle.std.proofs.lemmas.Slice.Eq.{bytes_eq-Decides}
use Rattle.sk_base.proofs.Tests.{same_tests}
use Rattle.sk_sorted.proofs.EntryLaws.{found-here, found-other, AllByRecursion-found}
use Rattle.sk_base.specs.declared.doc_entry.DocTerm.{DocTerm}
use Rattle.sk_base.specs.Documents.{AreTerms, has_term, wdf_of}
use Rattle.sk_base.specs.Numbers.{Docs, length_of, greatest_of, some_has}
use Rattle.sk_dict.specs.Terms.{term_at, begins_with, IsWalk}
use Rattle.sk_dict.proofs.WalkLaws.{walk-there, walk-begins, walk-rising, walk-has}
use Rattle.sk_model.specs.Documents.{Document}
use Rattle.sk_model.specs.Edits.{document_at}
use Rattle.sk_model.specs.Scores.{wild_wdf}
use Rattle.sk_documents.specs.Documented.{HasTerms}
use Rattle.sk_terms.specs.Listed.{Listed, list_of, IsListed}
use Rattle.sk_terms.specs.Wild.{over, share_behind, sum_behind}
use Rattle.sk_terms.proofs.ListedLemmas.{AreTerms-tail, once_at}
use Rattle.sk_terms.proofs.WalkLemmas.{only, over-same, over-none, over-sum, over-only, sum_behind-next, sum_behind-none}
use Rattle.sk_index.specs.Indexed.{postings, AreAllWith}
use Rattle.sk_index.proofs.NumberLemmas.{wdf_of-none}
use Rattle.sk_index.proofs.WildLemmas.{Holds, sum_behind-terms_with, holds_all, length_of-none, greatest_of-none}

-- a sum over the walk
pub walk-sum : (f : List ℕ → ℕ) (terms : List (List ℕ)) (prefix : List ℕ) (after : Option ℕ) (ns : List ℕ) → AllPairs (λ s t. s ≢ t) terms → IsWalk terms prefix after ns
    → sum_by (λ n. f (term_at terms n)) ns ≡ sum_behind f terms prefix after
walk-sum f terms prefix after [] different w = sym (sum_behind-none f terms prefix after w)
walk-sum f terms prefix after (n ∷ ns) different w =
    sum_by-cons (λ n. f (term_at terms n)) n ns ∙ ap (λ k. f (term_at terms n) + k) (walk-sum f terms prefix (Some n) ns different w.1)
    ∙ sym (sum_behind-next f terms prefix after n different w.0)

-- the terms of one document
module _ (prefix : List ℕ) (terms : List (List ℕ)) (different : AllPairs (λ s t. s ≢ t) terms) where
  -- the wdfs of those that begin with the prefix, as a sum over all terms
  wild_over : (xs : List DocTerm) → AreTerms xs → Holds terms (λ t. has_term t xs) → wild_wdf prefix xs ≡ over (λ t. if begins_with t prefix then wdf_of t xs else 0) terms
  wild_over [] rising holds = sym (over-none (λ t. if begins_with t prefix then wdf_of t [] else 0) terms (λ m lt. nothing (begins_with (term_at terms m) prefix)))
    where
      nothing : (b : Bool) → ◌≡◌ {A = ℕ} (if b then 0 else 0) 0
      nothing true = refl
      nothing false = refl
  wild_over (x ∷ xs) rising holds =
      let at = holds x.term (ap (λ b. b || has_term x.term xs) ((bytes_eq-Decides x.term x.term).1 refl)) in
      (λ i. sym (over-only x.term own terms at.0 different at.1 at.2) i + wild_over xs (AreTerms-tail x xs rising) (λ t h. holds t (or_right (bytes_eq x.term t) (has_term t xs) h)) i)
      ∙ sym (over-sum (only x.term own) (λ t. if begins_with t prefix then wdf_of t xs else 0) terms)
      ∙ over-same (λ t. only x.term own t + (if begins_with t prefix then wdf_of t xs else 0)) (λ t. if begins_with t prefix then wdf_of t (x ∷ xs) else 0) terms
      (λ m lt. joined (bytes_eq x.term (term_at terms m)) (begins_with (term_at terms m) prefix) (wdf_of (term_at terms m) xs) (λ pro. wdf_of-none (term_at terms m) xs (once_at x xs (term_at terms m) rising pro)))
    where
      own : List ℕ → ℕ
      own t = if begins_with t prefix then x.wdf else 0

      joined : (b c : Bool) (k : ℕ) → (b ≡ true → k ≡ 0) → (if b then (if c then x.wdf else 0) else 0) + (if c then k else 0) ≡ (if c then (if b then x.wdf else k) else 0)
      joined true true k none = omega (arith, none refl)
      joined true false k none = refl
      joined false true k none = omega arith
      joined false false k none = refl

  -- and as one over the walk
  pub wild_wdf-walk : (xs : List DocTerm) (ns : List ℕ) → AreTerms xs → Holds terms (λ t. has_term t xs) → IsWalk terms prefix None ns
      → wild_wdf prefix xs ≡ sum_by (λ n. wdf_of (term_at terms n) xs) ns
  wild_wdf-walk xs ns rising holds w =
      wild_over xs rising holds
      ∙ over-same (λ t. if begins_with t prefix then wdf_of t xs else 0) (share_behind (λ t. wdf_of t xs) terms prefix None) terms (λ m lt. by (begins_with (term_at terms m) prefix) (wdf_of (term_at terms m) xs))
      ∙ sym (walk-sum (λ t. wdf_of t xs) terms prefix None ns different w)
    where
      by : (b : Bool) (k : ℕ) → (if b then k else 0) ≡ (if b && true then k else 0)
      by true k = refl
      by false k = refl

  -- a term that begins with the prefix is among those of the document
  begun : (t : List ℕ) (xs : List DocTerm) → begins_with t prefix ≡ true → has_term t xs ≡ true → list_any (λ one. begins_with one.term prefix) xs ≡ true
  begun t [] b h = absurd (true≢false (sym h))
  begun t (x ∷ xs) b h = by (bytes_eq x.term t) refl h (begun t xs b)
    where
      by : (c : Bool) → bytes_eq x.term t ≡ c → (c || has_term t xs) ≡ true → (has_term t xs ≡ true → list_any (λ one. begins_with one.term prefix) xs ≡ true)
          → (begins_with x.term prefix || list_any (λ one. begins_with one.term prefix) xs) ≡ true
      by true e h rest = ap (λ c. c || list_any (λ one. begins_with one.term prefix) xs) (ap (λ w. begins_with w prefix) ((bytes_eq-Decides x.term t).0 e) ∙ b)
      by false e h rest = or_right (begins_with x.term prefix) (list_any (λ one. begins_with one.term prefix) xs) (rest h)

  -- which is one of these
  one_begins : (xs : List DocTerm) → list_any (λ one. begins_with one.term prefix) xs ≡ true → (t : List ℕ) × (begins_with t prefix ≡ true) × (has_term t xs ≡ true)
  one_begins [] h = absurd (true≢false (sym h))
  one_begins (x ∷ xs) h = by (begins_with x.term prefix) refl h (one_begins xs)
    where
      by : (c : Bool) → begins_with x.term prefix ≡ c → (c || list_any (λ one. begins_with one.term prefix) xs) ≡ true
          → (list_any (λ one. begins_with one.term prefix) xs ≡ true → (t : List ℕ) × (begins_with t prefix ≡ true) × (has_term t xs ≡ true))
          → (t : List ℕ) × (begins_with t prefix ≡ true) × (has_term t (x ∷ xs) ≡ true)
      by true e h rest = (x.term, e, ap (λ b. b || has_term x.term xs) ((bytes_eq-Decides x.term x.term).1 refl))
      by false e h rest = let r = rest h in (r.0, r.1, or_right (bytes_eq x.term r.0) (has_term r.0 xs) r.2)

  -- where the document has one of the walk it has one that begins so
  walk_matches : (xs : List DocTerm) (after : Option ℕ) (ns : List ℕ) → IsWalk terms prefix after ns → list_any (λ n. has_term (term_at terms n) xs) ns ≡ true
      → list_any (λ one. begins_with one.term prefix) xs ≡ true
  walk_matches xs after [] w h = absurd (true≢false (sym h))
  walk_matches xs after (n ∷ ns) w h = by (has_term (term_at terms n) xs) refl h (walk_matches xs (Some n) ns w.1)
    where
      by : (c : Bool) → has_term (term_at terms n) xs ≡ c → (c || list_any (λ m. has_term (term_at terms m) xs) ns) ≡ true
          → (list_any (λ m. has_term (term_at terms m) xs) ns ≡ true → list_any (λ one. begins_with one.term prefix) xs ≡ true) → list_any (λ one. begins_with one.term prefix) xs ≡ true
      by true e h rest = begun (term_at terms n) xs w.0.follows.begins e
      by false e h rest = rest h

  -- so both tests are one
  pub matches-walk : (xs : List DocTerm) (ns : List ℕ) → Holds terms (λ t. has_term t xs) → IsWalk terms prefix None ns
      → list_any (λ one. begins_with one.term prefix) xs ≡ list_any (λ n. has_term (term_at terms n) xs) ns
  matches-walk xs ns holds w =
      same_tests (list_any (λ one. begins_with one.term prefix) xs) (list_any (λ n. has_term (term_at terms n) xs) ns)
      (λ h.
      let one = one_begins xs h in
      let at = holds one.0 one.2 in
      walk-has terms prefix (λ n. has_term (term_at terms n) xs) at.0 None ns w (record { there = at.1; begins = ap (λ t. begins_with t prefix) at.2 ∙ one.1; behind = tt })
      (ap (λ t. has_term t xs) at.2 ∙ one.2)) (walk_matches xs None ns w)

-- a term of a document that is there is one of the documents'
some_has-found : (t : List ℕ) (id : ℕ) (d : Document) (docs : Docs) → document_at id docs ≡ Some d → has_term t d.terms ≡ true → some_has t docs ≡ true
some_has-found t id d [] some h = cc
some_has-found t id d (one ∷ more) some h = elim (cases_eq one.0 id) [
  | inl same ↦
      let here : Some one.1 ≡ Some d = sym (found-here id one more same) ∙ some in
      let is : one.1 ≡ d = cc in
      ap (λ b. b || some_has t more) (ap (λ (x : Document). has_term t x.terms) is ∙ h)
  | inr apart ↦ or_right (has_term t one.1.terms) (some_has t more) (some_has-found t id d more (sym (found-other id one more apart) ∙ some) h)
]

-- what is said of all terms with a prefix, by the walk that gave them
pub all_with : (prefix : List ℕ) (listed : Listed) (docs : Docs) (ns : List ℕ) → IsListed listed → AllByRecursion HasTerms docs → ((t : List ℕ) → list_of t listed ≡ postings t docs)
    → IsWalk listed.terms prefix None ns → AreAllWith prefix listed.terms docs ns
all_with prefix listed docs ns sound up lists w = record {
  there = walk-there listed.terms prefix None ns w;
  begins = walk-begins listed.terms prefix None ns w;
  rising = walk-rising listed.terms prefix None ns w;
  matches = λ id d some. matches-walk prefix listed.terms sound.different d.terms ns (holds id d some) w;
  wdfs = λ id d some. wild_wdf-walk prefix listed.terms sound.different d.terms ns (AllByRecursion-found (λ (x : Document). AreTerms x.terms) id d docs up some) (holds id d some) w;
  lengths = walk-sum (λ t. length_of t docs) listed.terms prefix None ns sound.different w
      ∙ sum_behind-terms_with (λ t. length_of t docs) (λ t. length_of t docs) prefix listed docs sound up lists (λ t. refl) (λ t none. length_of-none t docs none);
  greatest = walk-sum (λ t. greatest_of t docs) listed.terms prefix None ns sound.different w
      ∙ sum_behind-terms_with (λ t. greatest_of t docs) (λ t. greatest_of t docs) prefix listed docs sound up lists (λ t. refl) (λ t none. greatest_of-none t docs none);
}
  where
    holds : (id : ℕ) (d : Document) → document_at id docs ≡ Some d → Holds listed.terms (λ t. has_term t d.terms)
    holds id d some t h = holds_all listed docs lists t (some_has-found t id d docs some h)
