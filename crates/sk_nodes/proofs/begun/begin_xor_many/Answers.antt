-- Sides that were moved on without a need give what they gave.
use Rattle.sk_nodes.specs.Shapes.{sides_on}
use Rattle.sk_nodes.proofs.ManyLaws.{xor_gives}
use Rattle.sk_nodes.proofs.begun.begin_xor_many.Goals as goal

pub returns-clause-gathers : goal.returns-clause-gathers
returns-clause-gathers g c =
    let i = c.args.index.now in
    let sought = c.seek_xor_many.ensures 0 in
    record {
      top = sought.lands.top;
      sound = sought.lands.sound;
      gives = λ id. xor_gives i id (sides_on c.args.tops.now c.args.nodes.now) (sides_on c.seek_xor_many.new.tops c.seek_xor_many.new.nodes) sought.lands.covers;
      ceiling = sought.falls;
    }

pub returns-clause-spends : goal.returns-clause-spends
returns-clause-spends g c = (c.seek_xor_many.ensures 0).spends
