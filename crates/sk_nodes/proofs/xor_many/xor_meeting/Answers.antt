-- An odd number of sides is there, or all go on.
use Rattle.std.proofs.Common.{arith}
use Rattle.sk_nodes.specs.Shapes.{sides_on}
use Rattle.sk_nodes.proofs.ManyLaws.{xor_there, even_below}
use Rattle.sk_nodes.proofs.xor_many.xor_meeting.Goals as goal

pub returns-then-tally : goal.returns-then-tally
returns-then-tally c i from small sound reached = (
  xor_there i (sides_on c.args.tops.now c.args.nodes.now) c.tally_of-tally.result (c.tally_of-tally.ensures.tallied i sound) c.if-tally.true (omega (arith, c.if-tally-ge-END.false)),
  c.tally_of-tally.ensures.reached from small reached,
)

pub returns : goal.returns
returns c i from small sound reached = record {
  further = omega (arith, c.tally_of-tally.ensures.reached from small reached);
  within = omega (arith, c.if-next-ge-END.false);
  below = even_below i (sides_on c.args.tops.now c.args.nodes.now) c.tally_of-tally.result (c.tally_of-tally.ensures.tallied i sound) c.if-tally.false (omega (arith, c.if-tally-ge-END.false));
}
