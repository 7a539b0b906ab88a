-- Sums over the terms that begin with a prefix are those over the terms of the documents.
use Rattle.std.proofs.Common.{◌≡◌, ◌≢◌, ℕ, ◌+◌, ◌<◌, max, Bool, true, false, cond, not, ◌&&◌, ◌||◌, if◌then◌else◌, List, [], ◌∷◌, length, map, filter, sum_by, bytes_eq, Option, None, Some, refl, sym, ap, ◌∙◌, arith}
use mathlib.Core.Bool.{true≢false}
use Rattle.std.specs.List.{AllPairs, AllByRecursion}
use Rattle.std.proofs.lemmas.List.Sums.{sum_by-cons, sum_by-append}
use Rattle.std.proofs.lemmas.Slice.Eq.{bytes_eq-Decides}
use Rattle.sk_base.specs.declared.doc_entry.DocTerm.{DocTerm}
use Rattle.sk_base.specs.Documents.{AreTerms, has_term}
use Rattle.sk_base.specs.Numbers.{Docs, length_of, greatest_of, some_has, term_in, terms_with}
use Rattle.sk_dict.specs.Terms.{term_at, number_of, begins_with}
use Rattle.sk_dict.proofs.NumberLaws.{number_of-Some}
use Rattle.sk_documents.specs.Documented.{HasTerms}
use Rattle.sk_model.specs.Documents.{Document}
use Rattle.sk_terms.specs.Listed.{Listed, list_of, IsListed}
use Rattle.sk_terms.specs.Wild.{over, share_behind, sum_behind}
use Rattle.sk_terms.proofs.ListedLemmas.{list_of-none, AreTerms-tail, once_at}
use Rattle.sk_terms.proofs.WalkLemmas.{over-same, over-none, over-sum, only, over-only}
use Rattle.sk_index.specs.Indexed.{postings}
use Rattle.sk_index.proofs.NumberLemmas.{none_has, wdf_of-none}

-- Each term of some documents is one of these.
abbrev pub Holds : List (List ℕ) → (List ℕ → Bool) → Type 0
Holds terms test = (t : List ℕ) → test t ≡ true → (n : ℕ) × (n < length terms) × (term_at terms n ≡ t)

-- the sum over the terms of one document that pass is that over all terms
sum-terms : (f : List ℕ → ℕ) (q : List ℕ → Bool) (terms : List (List ℕ)) (xs : List DocTerm) → AllPairs (λ s t. s ≢ t) terms → AreTerms xs → Holds terms (λ t. has_term t xs)
    → sum_by f (filter q (map term_in xs)) ≡ over (λ t. if has_term t xs && q t then f t else 0) terms
sum-terms f q terms [] different rising holds = sym (over-none (λ t. if has_term t [] && q t then f t else 0) terms (λ m lt. refl))
sum-terms f q terms (x ∷ xs) different rising holds =
    let at = holds x.term (ap (λ b. b || has_term x.term xs) ((bytes_eq-Decides x.term x.term).1 refl)) in
    first (q x.term)
    ∙ (λ i. sym (over-only x.term passed terms at.0 different at.1 at.2) i + sum-terms f q terms xs different (AreTerms-tail x xs rising) (λ t h. holds t (later (bytes_eq x.term t) (has_term t xs) h)) i)
    ∙ sym (over-sum (only x.term passed) (λ t. if has_term t xs && q t then f t else 0) terms)
    ∙ over-same (λ t. only x.term passed t + (if has_term t xs && q t then f t else 0)) (λ t. if has_term t (x ∷ xs) && q t then f t else 0) terms
    (λ m lt. joined (bytes_eq x.term (term_at terms m)) (has_term (term_at terms m) xs) (q (term_at terms m)) (f (term_at terms m)) (once_at x xs (term_at terms m) rising))
  where
    passed : List ℕ → ℕ
    passed t = if q t then f t else 0

    first : (b : Bool) → sum_by f (cond b (x.term ∷ filter q (map term_in xs)) (filter q (map term_in xs))) ≡ (if b then f x.term else 0) + sum_by f (filter q (map term_in xs))
    first true = sum_by-cons f x.term (filter q (map term_in xs))
    first false = omega arith

    later : (b c : Bool) → c ≡ true → (b || c) ≡ true
    later true c e = refl
    later false c e = e

    joined : (b c d : Bool) (k : ℕ) → (b ≡ true → c ≡ false) → (if b then (if d then k else 0) else 0) + (if c && d then k else 0) ≡ (if (b || c) && d then k else 0)
    joined true true d k once = absurd (true≢false (once refl))
    joined true false true k once = omega arith
    joined true false false k once = refl
    joined false true true k once = omega arith
    joined false true false k once = refl
    joined false false d k once = refl

-- the sum over the terms of all documents that begin with a prefix, each once, is that over all terms
pub sum-terms_with : (f : List ℕ → ℕ) (prefix : List ℕ) (terms : List (List ℕ)) (docs : Docs) → AllPairs (λ s t. s ≢ t) terms → AllByRecursion HasTerms docs → Holds terms (λ t. some_has t docs)
    → sum_by f (terms_with prefix docs) ≡ over (λ t. if begins_with t prefix && some_has t docs then f t else 0) terms
sum-terms_with f prefix terms [] different up holds = sym (over-none (λ t. if begins_with t prefix && some_has t [] then f t else 0) terms (λ m lt. nothing (begins_with (term_at terms m) prefix) (f (term_at terms m))))
  where
    nothing : (b : Bool) (k : ℕ) → (if b && false then k else 0) ≡ 0
    nothing true k = refl
    nothing false k = refl
sum-terms_with f prefix terms (one ∷ more) different up holds =
    sum_by-append f (filter new (map term_in one.1.terms)) (terms_with prefix more)
    ∙ (λ i. sum-terms f new terms one.1.terms different up.0 (λ t h. holds t (ap (λ b. b || some_has t more) h)) i + sum-terms_with f prefix terms more different up.1 (λ t h. holds t (later (has_term t one.1.terms) (some_has t more) h)) i)
    ∙ sym (over-sum (λ t. if has_term t one.1.terms && new t then f t else 0) (λ t. if begins_with t prefix && some_has t more then f t else 0) terms)
    ∙ over-same (λ t. (if has_term t one.1.terms && new t then f t else 0) + (if begins_with t prefix && some_has t more then f t else 0)) (λ t. if begins_with t prefix && some_has t (one ∷ more) then f t else 0) terms
    (λ m lt. joined (has_term (term_at terms m) one.1.terms) (begins_with (term_at terms m) prefix) (some_has (term_at terms m) more) (f (term_at terms m)))
  where
    new : List ℕ → Bool
    new t = begins_with t prefix && not (some_has t more)

    later : (b c : Bool) → c ≡ true → (b || c) ≡ true
    later true c e = refl
    later false c e = e

    joined : (h b s : Bool) (k : ℕ) → (if h && (b && not s) then k else 0) + (if b && s then k else 0) ≡ (if b && (h || s) then k else 0)
    joined true true true k = omega arith
    joined true true false k = omega arith
    joined true false s k = refl
    joined false true true k = omega arith
    joined false true false k = refl
    joined false false s k = refl

-- a term that no document has counts nothing
pub length_of-none : (t : List ℕ) (docs : Docs) → some_has t docs ≡ false → length_of t docs ≡ 0
length_of-none t [] h = refl
length_of-none t (one ∷ more) h =
    sum_by-cons (λ (x : ℕ × Document). cond (has_term t x.1.terms) 1 0) one more
    ∙ by (has_term t one.1.terms) refl (length_of-none t more)
  where
    by : (b : Bool) → has_term t one.1.terms ≡ b → (some_has t more ≡ false → length_of t more ≡ 0) → cond b 1 0 + length_of t more ≡ 0
    by true e rest = absurd (true≢false (sym (ap (λ c. c || some_has t more) e) ∙ h))
    by false e rest = omega (arith, rest (sym (ap (λ c. c || some_has t more) e) ∙ h))

pub greatest_of-none : (t : List ℕ) (docs : Docs) → some_has t docs ≡ false → greatest_of t docs ≡ 0
greatest_of-none t [] h = refl
greatest_of-none t (one ∷ more) h = by (has_term t one.1.terms) refl (greatest_of-none t more)
  where
    by : (b : Bool) → has_term t one.1.terms ≡ b → (some_has t more ≡ false → greatest_of t more ≡ 0) → max (Rattle.sk_base.specs.Documents.wdf_of t one.1.terms) (greatest_of t more) ≡ 0
    by true e rest = absurd (true≢false (sym (ap (λ c. c || some_has t more) e) ∙ h))
    by false e rest = omega (arith, wdf_of-none t one.1.terms e, rest (sym (ap (λ c. c || some_has t more) e) ∙ h))

-- each term of a document has a number
pub holds_all : (listed : Listed) (docs : Docs) → ((t : List ℕ) → list_of t listed ≡ postings t docs) → Holds listed.terms (λ t. some_has t docs)
holds_all listed docs lists t h = by (number_of t listed.terms) refl
  where
    by : (o : Option ℕ) → number_of t listed.terms ≡ o → (n : ℕ) × (n < length listed.terms) × (term_at listed.terms n ≡ t)
    by None e = absurd (true≢false (sym h ∙ none_has t docs (sym (lists t) ∙ list_of-none listed t e)))
    by (Some n) e = let at = number_of-Some listed.terms t n e in (n, at.0, at.1)

-- what the walk adds up is the sum over the terms of the documents
pub sum_behind-terms_with : (f g : List ℕ → ℕ) (prefix : List ℕ) (listed : Listed) (docs : Docs) → IsListed listed → AllByRecursion HasTerms docs
    → ((t : List ℕ) → list_of t listed ≡ postings t docs) → ((t : List ℕ) → f t ≡ g t) → ((t : List ℕ) → some_has t docs ≡ false → g t ≡ 0)
    → sum_behind f listed.terms prefix None ≡ sum_by g (terms_with prefix docs)
sum_behind-terms_with f g prefix listed docs sound up lists same none =
    over-same (share_behind f listed.terms prefix None) (λ t. if begins_with t prefix && some_has t docs then g t else 0) listed.terms
    (λ m lt. by (begins_with (term_at listed.terms m) prefix) (term_at listed.terms m) (some_has (term_at listed.terms m) docs) refl)
    ∙ sym (sum-terms_with g prefix listed.terms docs sound.different up (holds_all listed docs lists))
  where
    by : (b : Bool) (t : List ℕ) (s : Bool) → some_has t docs ≡ s → (if b && true then f t else 0) ≡ (if b && s then g t else 0)
    by true t true e = same t
    by true t false e = same t ∙ none t e
    by false t s e = refl
