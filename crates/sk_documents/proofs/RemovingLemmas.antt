-- Which documents are left where those of a term are removed.
use Rattle.std.proofs.Common.{◌≡◌, ℕ, ◌+◌, ◌<◌, ◌≤◌, Bool, true, false, cond, not, List, [], ◌∷◌, length, map, filter, find, drop, get_or, slice_get, None, Some, option_map, refl, sym, ap, ◌∙◌, arith}
use Rattle.std.proofs.lemmas.List.{drop_more}
use Rattle.std.proofs.lemmas.List.Sums.{sum_by-cons}
use Rattle.sk_sorted.specs.Entries.{RiseAbove, LieBelow}
use Rattle.sk_sorted.proofs.EntryLaws.{without-here, without-other}
use Rattle.sk_base.specs.Documents.{has_term}
use Rattle.sk_base.specs.Numbers.{Docs, length_of}
use Rattle.sk_model.specs.Documents.{Document}
use Rattle.sk_model.specs.Edits.{without_id, without_term, first_with}
use Rattle.sk_documents.specs.Removing.{ids_with, without_ids}

-- by whether the first document has the term
abbrev ids_by : Bool → ℕ → List ℕ → List ℕ
ids_by b id ids = cond b (id ∷ ids) ids

ids_with-cons : (t : List ℕ) (one : ℕ × Document) (more : Docs) → ids_with t (one ∷ more) ≡ ids_by (has_term t one.1.terms) one.0 (ids_with t more)
ids_with-cons t one more = by (has_term t one.1.terms)
  where
    by : (b : Bool) → map (λ (e : ℕ × Document). e.0) (cond b (one ∷ filter (λ (e : ℕ × Document). has_term t e.1.terms) more) (filter (λ (e : ℕ × Document). has_term t e.1.terms) more)) ≡ ids_by b one.0 (ids_with t more)
    by true = refl
    by false = refl

slice_get-first : (id : ℕ) (ids : List ℕ) → slice_get (id ∷ ids) 0 ≡ Some id
slice_get-first id ids = refl

cons_nil : {id : ℕ} {ids : List ℕ} → id ∷ ids ≡ [] → ⊥
cons_nil e = cc

-- a list that has no first is empty
pub empty_from : (ids : List ℕ) → slice_get ids 0 ≡ None → ids ≡ []
empty_from [] e = refl
empty_from (id ∷ ids) e = absurd (some_none (sym (slice_get-first id ids) ∙ e))
  where
    some_none : {n : ℕ} → Some n ≡ None → ⊥
    some_none e = cc

-- each id is above the bound
abbrev Above : ℕ → List ℕ → Type 0
Above low [] = Unit {0}
Above low (id ∷ ids) = (low < id) × Above low ids

Above-lower : (low high : ℕ) (ids : List ℕ) → low ≤ high → Above high ids → Above low ids
Above-lower low high [] le up = tt
Above-lower low high (id ∷ ids) le up = (omega (arith, up.0), Above-lower low high ids le up.1)

ids_with-above : (t : List ℕ) (low : ℕ) (docs : Docs) → RiseAbove low docs → Above low (ids_with t docs)
ids_with-above t low [] up = tt
ids_with-above t low (one ∷ more) up = rw (ids_with-cons t one more) (by (has_term t one.1.terms) (Above-lower low one.0 (ids_with t more) (omega (arith, up.0)) (ids_with-above t one.0 more up.1)))
  where
    by : (b : Bool) → Above low (ids_with t more) → Above low (ids_by b one.0 (ids_with t more))
    by true rest = (up.0, rest)
    by false rest = rest

-- the first document stays where ids above it are taken out
first_stays : (one : ℕ × Document) (more : Docs) (ids : List ℕ) → Above one.0 ids → without_ids ids (one ∷ more) ≡ one ∷ without_ids ids more
first_stays one more [] up = refl
first_stays one more (id ∷ ids) up = ap (without_id id) (first_stays one more ids up.1) ∙ without-other id one (without_ids ids more) (λ same. omega (arith, up.0, same))

-- without the ids of those that have the term no document has it, and the others stay
pub without_ids-term : (t : List ℕ) (low : ℕ) (docs : Docs) → RiseAbove low docs → without_ids (ids_with t docs) docs ≡ without_term t docs
without_ids-term t low [] up = refl
without_ids-term t low (one ∷ more) up =
    ap (λ (ids : List ℕ). without_ids ids (one ∷ more)) (ids_with-cons t one more)
    ∙ by (has_term t one.1.terms) (first_stays one more (ids_with t more) (ids_with-above t one.0 more up.1) ∙ ap (λ (l : Docs). one ∷ l) (without_ids-term t one.0 more up.1))
  where
    by : (b : Bool) → without_ids (ids_with t more) (one ∷ more) ≡ one ∷ without_term t more
        → without_ids (ids_by b one.0 (ids_with t more)) (one ∷ more) ≡ cond (not b) (one ∷ without_term t more) (without_term t more)
    by true rest = ap (without_id one.0) rest ∙ without-here one.0 one (without_term t more) refl
    by false rest = rest

-- the loop: the documents without the last ids, and then without one more
pub removes_on : (ids : List ℕ) (i : ℕ) (d : ℕ) (start mid next : Docs) → i < length ids → mid ≡ without_ids (drop (i + 1) ids) start → next ≡ without_id (get_or ids i d) mid → next ≡ without_ids (drop i ids) start
removes_on ids i d start mid next lt before one =
    one ∙ ap (without_id (get_or ids i d)) before ∙ ap (λ w. without_ids w start) (sym (drop_more ids i d lt))

pub first_with-ids : (t : List ℕ) (docs : Docs) → first_with t docs ≡ slice_get (ids_with t docs) 0
first_with-ids t [] = refl
first_with-ids t (one ∷ more) = by (has_term t one.1.terms) (first_with-ids t more) ∙ ap (λ (ids : List ℕ). slice_get ids 0) (sym (ids_with-cons t one more))
  where
    by : (b : Bool) → first_with t more ≡ slice_get (ids_with t more) 0
        → option_map (λ (x : ℕ × Document). x.0) (cond b (Some one) (find (λ (x : ℕ × Document). has_term t x.1.terms) more)) ≡ slice_get (ids_by b one.0 (ids_with t more)) 0
    by true rest = sym (slice_get-first one.0 (ids_with t more))
    by false rest = rest

-- where no document has the term all stay
pub without_term-none : (t : List ℕ) (docs : Docs) → ids_with t docs ≡ [] → without_term t docs ≡ docs
without_term-none t [] e = refl
without_term-none t (one ∷ more) e = by (has_term t one.1.terms) (sym (ids_with-cons t one more) ∙ e) (without_term-none t more)
  where
    by : (b : Bool) → ids_by b one.0 (ids_with t more) ≡ [] → (ids_with t more ≡ [] → without_term t more ≡ more) → cond (not b) (one ∷ without_term t more) (without_term t more) ≡ one ∷ more
    by true e rest = absurd (cons_nil e)
    by false e rest = ap (λ (l : Docs). one ∷ l) (rest e)

-- the first id is one of a document
pub first_within : (t : List ℕ) (low high : ℕ) (docs : Docs) (id : ℕ) → RiseAbove low docs → LieBelow (high + 1) docs → first_with t docs ≡ Some id → (low < id) × (id ≤ high)
first_within t low high [] id up below e = absurd (none_some e)
  where
    none_some : {n : ℕ} → None ≡ Some n → ⊥
    none_some e = cc
first_within t low high (one ∷ more) id up below e = by (has_term t one.1.terms) e (first_within t one.0 high more id up.1 below.1)
  where
    by : (b : Bool) → option_map (λ (x : ℕ × Document). x.0) (cond b (Some one) (find (λ (x : ℕ × Document). has_term t x.1.terms) more)) ≡ Some id
        → (first_with t more ≡ Some id → (one.0 < id) × (id ≤ high)) → (low < id) × (id ≤ high)
    by true e rest = let same : one.0 ≡ id = cc in (omega (arith, up.0, same), omega (arith, below.0, same))
    by false e rest = let h = rest e in (omega (arith, up.0, h.0), h.1)

-- there are as many ids as documents that have the term
pub length-ids_with : (t : List ℕ) (docs : Docs) → length (ids_with t docs) ≡ length_of t docs
length-ids_with t [] = refl
length-ids_with t (one ∷ more) =
    ap length (ids_with-cons t one more) ∙ by (has_term t one.1.terms) (length-ids_with t more) ∙ sym (sum_by-cons (λ (x : ℕ × Document). cond (has_term t x.1.terms) 1 0) one more)
  where
    by : (b : Bool) → length (ids_with t more) ≡ length_of t more → length (ids_by b one.0 (ids_with t more)) ≡ cond b 1 0 + length_of t more
    by true e = omega (arith, e)
    by false e = omega (arith, e)

-- and no more than documents
pub few_with : (t : List ℕ) (docs : Docs) → length (ids_with t docs) ≤ length docs
few_with t [] = omega arith
few_with t (one ∷ more) = rw (ids_with-cons t one more) (by (has_term t one.1.terms) (few_with t more))
  where
    by : (b : Bool) → length (ids_with t more) ≤ length more → length (ids_by b one.0 (ids_with t more)) ≤ length (one ∷ more)
    by true le = omega (arith, le)
    by false le = omega (arith, le)
