use Rattle.sk_model.proofs.JoinedLaws.{matches_in_parts, static_in_parts}
use Rattle.sk_model.proofs.joined.matches_within_parts.Goals as goal

pub returns-clause-matches : goal.returns-clause-matches
returns-clause-matches c n query scheme order above docs some rise e = matches_in_parts n docs some rise query scheme order above e

pub returns-clause-live : goal.returns-clause-live
returns-clause-live c n query docs some rise = static_in_parts n docs some rise query
