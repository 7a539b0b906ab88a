-- The numbers of a list are those of the documents.
use Rattle.std.proofs.Common.{◌≡◌, ◌≢◌, ℕ, ◌+◌, ◌-◌, max, Bool, true, false, cond, ◌||◌, ◌&&◌, nat_le, nat_lt, if◌then◌else◌, List, [], ◌∷◌, length, filter, count_by, bytes_eq, Option, None, Some, refl, sym, ap, ◌∙◌, arith}
use mathlib.Core.Bool.{true≢false}
use Rattle.std.specs.List.{cons_option}
use Rattle.std.proofs.lemmas.List.Sums.{sum_by-cons}
use Rattle.std.proofs.lemmas.Bool.Decides.{nat_tests}
use Rattle.sk_base.specs.declared.doc_entry.DocTerm.{DocTerm}
use Rattle.sk_base.specs.Documents.{has_term, wdf_of, has_value, value_in}
use Rattle.sk_base.specs.Numbers.{Docs, length_of, greatest_of, some_has, slot_length_of}
use Rattle.sk_chunks.specs.Postings.{Postings, greatest_wdf}
use Rattle.sk_model.specs.Documents.{Document}
use Rattle.sk_model.specs.Sharp.{up}
use Rattle.sk_lists.specs.Seeks.{count_to}
use Rattle.sk_dict.specs.Terms.{number_of}
use Rattle.sk_terms.specs.Listed.{Listed, list_of, list_under}
use Rattle.sk_index.specs.Indexed.{postings, slot_values}
use Rattle.sk_sorted.specs.Entries.{ids_of}
use Rattle.sk_documents.specs.Removing.{ids_with}

counted_length : {P : Type 0} (b : Bool) (p : P) (ps : List P) (n : ℕ) → length ps ≡ n → length (cons_option (if b then Some p else None) ps) ≡ cond b 1 0 + n
counted_length true p ps n e = omega (arith, e)
counted_length false p ps n e = omega (arith, e)

pub length-postings : (t : List ℕ) (docs : Docs) → length (postings t docs) ≡ length_of t docs
length-postings t [] = refl
length-postings t (one ∷ more) =
    counted_length (has_term t one.1.terms) (one.0, wdf_of t one.1.terms) (postings t more) (length_of t more) (length-postings t more)
    ∙ sym (sum_by-cons (λ (x : ℕ × Document). cond (has_term t x.1.terms) 1 0) one more)

pub length-slot_values : (slot : ℕ) (docs : Docs) → length (slot_values slot docs) ≡ slot_length_of slot docs
length-slot_values slot [] = refl
length-slot_values slot (one ∷ more) =
    counted_length (has_value slot one.1.values) (one.0, value_in slot one.1.values) (slot_values slot more) (slot_length_of slot more) (length-slot_values slot more)
    ∙ sym (sum_by-cons (λ (x : ℕ × Document). cond (has_value slot x.1.values) 1 0) one more)

-- a term that is not there has the wdf 0
pub wdf_of-none : (t : List ℕ) (terms : List DocTerm) → has_term t terms ≡ false → wdf_of t terms ≡ 0
wdf_of-none t [] h = refl
wdf_of-none t (x ∷ xs) h = by (bytes_eq x.term t) refl (wdf_of-none t xs)
  where
    by : (b : Bool) → bytes_eq x.term t ≡ b → (has_term t xs ≡ false → wdf_of t xs ≡ 0) → (if b then x.wdf else wdf_of t xs) ≡ 0
    by true e rest = absurd (true≢false (sym (ap (λ c. c || has_term t xs) e) ∙ h))
    by false e rest = rest (sym (ap (λ c. c || has_term t xs) e) ∙ h)

pub greatest-postings : (t : List ℕ) (docs : Docs) → greatest_wdf (postings t docs) ≡ greatest_of t docs
greatest-postings t [] = refl
greatest-postings t (one ∷ more) = by (has_term t one.1.terms) refl ∙ ap (max (wdf_of t one.1.terms)) (greatest-postings t more)
  where
    by : (b : Bool) → has_term t one.1.terms ≡ b
        → greatest_wdf (cons_option (if b then Some (one.0, wdf_of t one.1.terms) else None) (postings t more)) ≡ max (wdf_of t one.1.terms) (greatest_wdf (postings t more))
    by true e = refl
    by false e = let none = wdf_of-none t one.1.terms e in omega (arith, none)

-- where the list of a term is empty no document has it
pub none_has : (t : List ℕ) (docs : Docs) → postings t docs ≡ [] → some_has t docs ≡ false
none_has t [] e = refl
none_has t (one ∷ more) e = by (has_term t one.1.terms) refl e (none_has t more)
  where
    by : (b : Bool) → has_term t one.1.terms ≡ b → cons_option (if b then Some (one.0, wdf_of t one.1.terms) else None) (postings t more) ≡ []
        → (postings t more ≡ [] → some_has t more ≡ false) → (has_term t one.1.terms || some_has t more) ≡ false
    by true h e rest = absurd (cons_nil e)
      where
        cons_nil : {P : Type 0} {p : P} {ps : List P} → p ∷ ps ≡ [] → ⊥
        cons_nil e = cc
    by false h e rest = ap (λ c. c || some_has t more) h ∙ rest e

-- and where no document has it its list is empty
pub none_listed : (t : List ℕ) (docs : Docs) → some_has t docs ≡ false → postings t docs ≡ []
none_listed t [] h = refl
none_listed t (one ∷ more) h = by (has_term t one.1.terms) refl (none_listed t more)
  where
    by : (b : Bool) → has_term t one.1.terms ≡ b → (some_has t more ≡ false → postings t more ≡ []) → cons_option (if b then Some (one.0, wdf_of t one.1.terms) else None) (postings t more) ≡ []
    by true e rest = absurd (true≢false (sym (ap (λ c. c || some_has t more) e) ∙ h))
    by false e rest = rest (sym (ap (λ c. c || some_has t more) e) ∙ h)

-- a term without a list is in no document
pub found_in : (t : List ℕ) (docs : Docs) (list : Postings) (P : ℕ → Type 0) (o : Option ℕ) → list ≡ postings t docs → Rattle.std.proofs.Common.MatchOption o (list ≡ []) P → Rattle.std.proofs.Common.MatchOption o (some_has t docs ≡ false) P
found_in t docs list P None is e = none_has t docs (sym is ∙ e)
found_in t docs list P (Some n) is h = h

-- a term without a number has an empty list, and no document has it
pub all_numbered : (listed : Listed) (docs : Docs) → ((t : List ℕ) → list_of t listed ≡ postings t docs) → (t : List ℕ) → number_of t listed.terms ≡ None → some_has t docs ≡ false
all_numbered listed docs lists t e = none_has t docs (sym (lists t) ∙ ap (λ o. list_under o listed.lists) e)

-- the ids in the list of a term are those of the documents that have it
pub ids-postings : (t : List ℕ) (docs : Docs) → ids_of (postings t docs) ≡ ids_with t docs
ids-postings t [] = refl
ids-postings t (one ∷ more) = by (has_term t one.1.terms) (ids-postings t more)
  where
    by : (b : Bool) → ids_of (postings t more) ≡ ids_with t more
        → ids_of (cons_option (if b then Some (one.0, wdf_of t one.1.terms) else None) (postings t more))
        ≡ ids_of (cond b (one ∷ filter (λ (e : ℕ × Document). has_term t e.1.terms) more) (filter (λ (e : ℕ × Document). has_term t e.1.terms) more))
    by true rest = ap (λ (ids : List ℕ). one.0 ∷ ids) rest
    by false rest = rest

-- how many documents that have the term stand up to an id
pub count_to-postings : (t : List ℕ) (id : ℕ) (docs : Docs) → count_to id (postings t docs) ≡ up t id docs
count_to-postings t id [] = refl
count_to-postings t id (one ∷ more) = by (has_term t one.1.terms) refl (count_to-postings t id more)
  where
    same : ◌≡◌ {A = ℕ} (if nat_lt one.0 (id + 1) then 1 else 0) (cond (nat_le one.0 id) 1 0)
    same = grind (arith, nat_tests)

    none : (n : ℕ) → n ≡ 0 + n
    none n = omega arith

    by : (b : Bool) → has_term t one.1.terms ≡ b → count_to id (postings t more) ≡ up t id more
        → count_to id (cons_option (if b then Some (one.0, wdf_of t one.1.terms) else None) (postings t more)) ≡ count_by (λ (x : ℕ × Document). has_term t x.1.terms && nat_le x.0 id) (one ∷ more)
    by true e rest = ap (λ n. n + count_to id (postings t more)) same ∙ ap (λ n. cond (nat_le one.0 id) 1 0 + n) rest
        ∙ ap (λ b. cond (b && nat_le one.0 id) 1 0 + up t id more) (sym e) ∙ sym (sum_by-cons (λ (x : ℕ × Document). cond (has_term t x.1.terms && nat_le x.0 id) 1 0) one more)
    by false e rest = rest ∙ none (up t id more) ∙ ap (λ b. cond (b && nat_le one.0 id) 1 0 + up t id more) (sym e) ∙ sym (sum_by-cons (λ (x : ℕ × Document). cond (has_term t x.1.terms && nat_le x.0 id) 1 0) one more)
