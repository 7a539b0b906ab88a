use Rattle.std.proofs.Common.{refl}
use Rattle.sk_sorted.proofs.JoinedLaws.{found-joined, rise-joined}
use Rattle.sk_sorted.proofs.PartLaws.{part_in-joined}
use Rattle.std.proofs.Common.{length}
use Rattle.sk_model.proofs.joined.parts_are_whole.Goals as goal

pub returns-clause-found : goal.returns-clause-found
returns-clause-found c parts id begun up = found-joined id parts begun up

pub returns-clause-rise : goal.returns-clause-rise
returns-clause-rise c parts = rise-joined parts

pub returns-clause-part : goal.returns-clause-part
returns-clause-part c parts part below up = part_in-joined (length parts) part below parts refl up
