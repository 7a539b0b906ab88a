use Rattle.std.proofs.Common.{◌≡◌, take}
use Rattle.sk_base.proofs.schema.Schema.copy.Given as goal

abbrev pub invariant-fields : goal.invariant-fields
invariant-fields l = l.fields.items ≡ take l.field-index l.field-items
