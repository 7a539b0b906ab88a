-- The schema of the examples.
use Rattle.std.proofs.Common.{true, false, [], ◌∷◌, codes}
use Rattle.sk_base.specs.declared.schema.Schema.{Schema}
use Rattle.sk_base.specs.declared.schema.FieldKind.TheVariants as FieldKind

-- Two text fields, the second with a prefix, a filter, a number, a word, and a filter with a prefix of several letters.
abbrev pub schema : Schema
schema =
    record {
      fields =
          record { name = codes "body"; kind = FieldKind.Text [] 1 }
          ∷ record { name = codes "title"; kind = FieldKind.Text (codes "S") 2 }
          ∷ record { name = codes "lang"; kind = FieldKind.Filter (codes "L") }
          ∷ record { name = codes "year"; kind = FieldKind.Number 0 }
          ∷ record { name = codes "site"; kind = FieldKind.Word 1 }
          ∷ record { name = codes "cat"; kind = FieldKind.Filter (codes "XCAT") }
          ∷ [];
      stem = false;
    }

-- The same fields, where stems are asked for.
abbrev pub stemming : Schema
stemming = record { fields = schema.fields; stem = true }
