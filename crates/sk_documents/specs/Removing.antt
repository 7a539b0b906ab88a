-- Documents without several ids.
use Rattle.std.specs.Prelude.{ℕ, List, [], ◌∷◌, filter}
use Rattle.sk_sorted.specs.Entries.{ids_of}
use Rattle.sk_base.specs.Documents.{has_term}
use Rattle.sk_base.specs.Numbers.{Docs}
use Rattle.sk_model.specs.Edits.{without_id}

-- The ids of the documents that have the term.
abbrev pub ids_with : List ℕ → Docs → List ℕ
ids_with t docs = ids_of (filter (λ one. has_term t one.1.terms) docs)

-- The documents without those of these ids, the last being removed first.
abbrev pub without_ids : List ℕ → Docs → Docs
without_ids [] docs = docs
without_ids (id ∷ ids) docs = without_id id (without_ids ids docs)
