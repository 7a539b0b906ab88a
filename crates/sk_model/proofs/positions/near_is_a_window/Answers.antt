use Rattle.sk_model.proofs.NearLaws.{near_found, near_holds}
use Rattle.sk_model.proofs.positions.near_is_a_window.Goals as goal

pub returns-clause-found : goal.returns-clause-found
returns-clause-found c window places some e = near_found window some places e

pub returns-clause-holds : goal.returns-clause-holds
returns-clause-holds c window p places some given e = near_holds window some places p given e
