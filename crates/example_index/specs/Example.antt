-- The schema of the example, the edit that adds a text, and what is printed of a document.
use Rattle.std.specs.Prelude.{ℕ, false, List, [], ◌∷◌, codes}
use Rattle.std.specs.Ordering.{nat_cmp, ordering_then}
use Rattle.std.specs.declared.cmp.Ordering.{Ordering}
use Rattle.sk_base.specs.declared.record.Edit.{Edit}
use Rattle.sk_base.specs.declared.record.FieldValue.{FieldValue}
use Rattle.sk_base.specs.declared.schema.FieldKind.{FieldKind}
use Rattle.sk_base.specs.declared.schema.Schema.{Schema}
use Rattle.example_index.specs.declared.Hit.{Hit}

-- One text, whose words are terms without a prefix, and count once; words are not stemmed.
abbrev pub bodies : Schema
bodies = record { fields = record { name = codes "body"; kind = FieldKind.Text [] 1 } ∷ []; stem = false }

-- The edit that adds a document of this text, which is kept with it.
abbrev pub addition : List ℕ → Edit
addition text = Edit.Add (record { values = record { field = 0; value = FieldValue.Text text } ∷ []; payload = text })

-- What is printed of an entry of a list: a document's id, and how often it has the word.
abbrev pub hit_of : ℕ × ℕ → Hit
hit_of p = record { weight = record { 0 = p.1 }; id = p.0 }

-- The order of an answer: the greatest weight first, and of two that weigh the same the least id.
abbrev pub by_weight : Hit → Hit → Ordering
by_weight a b = ordering_then (nat_cmp b.weight.0 a.weight.0) (nat_cmp a.id b.id)
