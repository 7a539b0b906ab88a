use Rattle.std.proofs.Common.{length}
use Rattle.sk_documents.proofs.gather.+gather.Given as goal

abbrev pub decreases-gather : goal.decreases-gather
decreases-gather g c = length c.parts.now
