-- The numbers of all terms that begin with a prefix, added document by document.
use Rattle.std.specs.Prelude.{ℕ, ◌+◌, ◌&&◌, not, List, [], ◌∷◌, if◌then◌else◌}
use Rattle.sk_base.specs.declared.doc_entry.DocTerm.{DocTerm}
use Rattle.sk_base.specs.Documents.{begins_with}
use Rattle.sk_base.specs.Numbers.{Docs, some_has}

-- The numbers of those of these terms that begin with the prefix, and that none of the documents has.
abbrev pub new_sum : (List ℕ → ℕ) → List ℕ → Docs → List DocTerm → ℕ
new_sum number prefix more [] = 0
new_sum number prefix more (one ∷ ones) =
    (if begins_with one.term prefix && not (some_has one.term more) then number one.term else 0) + new_sum number prefix more ones

-- Those of all documents: each term counts at the last document that has it.
abbrev pub wild_sum : (List ℕ → ℕ) → List ℕ → Docs → ℕ
wild_sum number prefix [] = 0
wild_sum number prefix (one ∷ more) = new_sum number prefix more one.1.terms + wild_sum number prefix more
