use Rattle.std.proofs.Common.{◌≡◌}
use Rattle.sk_base.specs.Numbers.{some_has}
use Rattle.sk_plain.proofs.wilds.is_last.Given as goal

-- those that were passed over do not have it, so those that are left decide
abbrev pub invariant-docs : goal.invariant-docs
invariant-docs l = some_has l.term l.doc-iterator ≡ some_has l.term l.fn.behind
