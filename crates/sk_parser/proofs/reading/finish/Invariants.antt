use Rattle.std.proofs.Common.{◌≡◌, length}
use Rattle.sk_base.specs.declared.schema.Schema.{Schema}
use Rattle.sk_parser.specs.Sound.{nothing_behind}
use Rattle.sk_parser.specs.Stack.{ends_as}
use Rattle.sk_parser.proofs.reading.finish.Given as goal

abbrev pub invariant-levels : goal.invariant-levels
invariant-levels l = (schema : Schema) → ends_as schema l.join l.stack nothing_behind ≡ ends_as schema l.join l.fn.stack nothing_behind

abbrev pub decreases-levels : goal.decreases-levels
decreases-levels l = length (l.stack.below).items
