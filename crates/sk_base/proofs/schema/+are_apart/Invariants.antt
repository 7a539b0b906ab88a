use Rattle.std.proofs.Common.{length}
use Rattle.sk_base.proofs.schema.+are_apart.Given as goal

abbrev pub decreases-are_apart : goal.decreases-are_apart
decreases-are_apart l = length l.fields.now
