use Rattle.std.proofs.Common.{refl, length}
use Rattle.sk_model.proofs.JoinedLaws.{score_in_parts, ups_in_parts}
use Rattle.sk_model.proofs.joined.score_within_parts.Goals as goal

pub returns-clause-score : goal.returns-clause-score
returns-clause-score c n query scheme above docs some rise e rising light = score_in_parts n query scheme above docs some rise e rising light

pub returns-clause-ups : goal.returns-clause-ups
returns-clause-ups c parts lists id up = ups_in_parts (length parts) id lists parts refl up
