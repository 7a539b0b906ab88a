-- How heavy the terms of a document are together.
use Rattle.std.specs.Prelude.{ℕ, ◌+◌, ◌<◌, ◌^◌, List, [], ◌∷◌}
use Rattle.sk_base.specs.declared.doc.Doc.{Doc}
use Rattle.sk_base.specs.declared.doc_entry.DocTerm.{DocTerm}

-- The wdfs of a document's terms, added.
abbrev pub load_of : List DocTerm → ℕ
load_of [] = 0
load_of (one ∷ more) = one.wdf + load_of more

-- The wdfs, added, lie below 2^29.
abbrev pub AreLight : List DocTerm → Type 0
AreLight terms = load_of terms < 2 ^ 29

-- A document with its id, whose wdfs, added, lie below 2^29.
abbrev pub IsLight : ℕ × Doc → Type 0
IsLight one = AreLight one.1.terms
