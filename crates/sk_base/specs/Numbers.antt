-- The six numbers of a list of documents with their ids.
use Rattle.std.specs.Prelude.{ℕ, ◌-◌, ◌^◌, ◌&&◌, min, max, not, Bool, List, [], ◌∷◌, ◌++◌, length, map, filter, count_by, sum_by}
use Rattle.std.specs.List.{list_any}
use Rattle.sk_base.specs.declared.doc.Doc.{Doc}
use Rattle.sk_base.specs.declared.doc_entry.DocTerm.{DocTerm}
use Rattle.sk_base.specs.Documents.{has_term, wdf_of, begins_with, has_value}

-- Documents with their ids.
abbrev pub Docs : Type 0
Docs = List (ℕ × Doc)

-- How many there are.
abbrev pub live_of : Docs → ℕ
live_of docs = length docs

-- How many have the term.
abbrev pub length_of : List ℕ → Docs → ℕ
length_of t docs = count_by (λ one. has_term t one.1.terms) docs

-- The greatest wdf of the term in any of them, and 0 where none has it.
abbrev pub greatest_of : List ℕ → Docs → ℕ
greatest_of t [] = 0
greatest_of t (one ∷ more) = max (wdf_of t one.1.terms) (greatest_of t more)

-- Whether one of them has the term.
abbrev pub some_has : List ℕ → Docs → Bool
some_has t docs = list_any (λ one. has_term t one.1.terms) docs

-- The term of an entry.
abbrev pub term_in : DocTerm → List ℕ
term_in one = one.term

-- All terms that begin with the prefix, each once: at the last document that has it.
abbrev pub terms_with : List ℕ → Docs → List (List ℕ)
terms_with prefix [] = []
terms_with prefix (one ∷ more) =
    filter (λ t. begins_with t prefix && not (some_has t more)) (map term_in one.1.terms) ++ terms_with prefix more

-- The sum of the lengths of these terms, and no more than there are documents.
abbrev pub wild_length_of : List ℕ → Docs → ℕ
wild_length_of prefix docs = min (live_of docs) (sum_by (λ t. length_of t docs) (terms_with prefix docs))

-- The sum of the greatest wdfs of these terms, and no more than any wdf.
abbrev pub wild_greatest_of : List ℕ → Docs → ℕ
wild_greatest_of prefix docs = min (2 ^ 29 - 1) (sum_by (λ t. greatest_of t docs) (terms_with prefix docs))

-- How many have a value in the slot.
abbrev pub slot_length_of : ℕ → Docs → ℕ
slot_length_of slot docs = count_by (λ one. has_value slot one.1.values) docs
