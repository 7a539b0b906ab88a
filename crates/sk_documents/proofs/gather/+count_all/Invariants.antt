use Rattle.std.proofs.Common.{length}
use Rattle.sk_documents.proofs.gather.+count_all.Given as goal

abbrev pub decreases-count_all : goal.decreases-count_all
decreases-count_all g c = length c.parts.now
