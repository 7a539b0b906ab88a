use Rattle.std.proofs.Common.{◌≡◌, drop}
use Rattle.sk_base.specs.Documents.{value_in}
use Rattle.sk_plain.proofs.terms.value_in.Given as goal

-- the values that were passed over are others, so those that are left decide
abbrev pub invariant-values : goal.invariant-values
invariant-values l = value_in l.slot (drop l.one-index l.values) ≡ value_in l.slot l.values
