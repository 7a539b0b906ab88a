-- Sides that were moved on without a need give what they gave, in any order.
use Rattle.std.proofs.Common.{◌∙◌, arith}
use Rattle.sk_nodes.specs.Shapes.{sides_on}
use Rattle.sk_nodes.proofs.OrManyLaws.{or_gives}
use Rattle.sk_nodes.proofs.OrderLaws.{order_accounts}
use Rattle.sk_nodes.proofs.begun.begin_or_many.Goals as goal

pub seek_or_many-requires : goal.seek_or_many-requires
seek_or_many-requires g c =
    let order = c.put_in_order.ensures.same c.args.index.now in
    record {
      sides = record { sides = order.sound c.requires.sound; fits = omega (arith, order.greatest, c.requires.fits) };
      target = omega arith;
      room = omega (arith, order.unread, c.requires.room);
    }

pub returns-clause-gathers : goal.returns-clause-gathers
returns-clause-gathers g c =
    let i = c.args.index.now in
    let order = c.put_in_order.ensures.same i in
    record {
      top = c.seek_or_many.ensures.sought.lands.top;
      sound = c.seek_or_many.ensures.sought.lands.sound;
      gives = λ id. or_gives i id (sides_on c.put_in_order.new.tops c.put_in_order.new.nodes) (sides_on c.seek_or_many.new.tops c.seek_or_many.new.nodes) c.seek_or_many.ensures.sought.lands.covers ∙ order.same id;
      ceiling = omega (arith, order.greatest, c.seek_or_many.ensures.sought.falls);
    }

pub returns-clause-spends : goal.returns-clause-spends
returns-clause-spends g c =
    let order = c.put_in_order.ensures.same c.args.index.now in
    record { paid = omega (arith, order.unread, c.seek_or_many.ensures.sought.spends.paid); counted = omega arith; later = omega arith }

pub returns-clause-accounts : goal.returns-clause-accounts
returns-clause-accounts g c =
    order_accounts c.args.index.now 0 0 c.args.spent.now c.seek_or_many.new.spent (sides_on c.args.tops.now c.args.nodes.now) (sides_on c.put_in_order.new.tops c.put_in_order.new.nodes) (sides_on c.seek_or_many.new.tops c.seek_or_many.new.nodes)
    (c.put_in_order.ensures.same c.args.index.now) c.seek_or_many.ensures.accounts
