-- The numbers were given for terms, and each is tested once.
use Rattle.std.proofs.Common.{◌<◌, ◌∙◌, length, ap}
use Rattle.sk_model.specs.Positions.{is_near}
use Rattle.sk_nodes.proofs.ProximityLaws.{there_all}
use Rattle.sk_nodes.proofs.RepeatLaws.{same_all, near_once}
use Rattle.sk_nodes.proofs.proximity.stand_near.Goals as goal

pub all_places-places-requires-clause-there : goal.all_places-places-requires-clause-there
all_places-places-requires-clause-there g c =
    same_all (λ n. n < length c.args.index.now.terms) c.args.once.now c.args.numbers.now c.requires.once.only (there_all c.args.index.now c.args.numbers.now c.requires.there)

pub returns-clause-value : goal.returns-clause-value
returns-clause-value g c =
    c.near.ensures ∙ ap (is_near c.args.window) c.all_places-places.ensures.value
    ∙ near_once c.args.window _ c.args.numbers.now c.args.once.now c.requires.wide c.requires.some c.requires.once
