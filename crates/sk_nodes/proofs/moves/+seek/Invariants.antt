-- How large the nodes are, and how far two sides have come.
use Rattle.std.proofs.Common.{◌<◌, ◌+◌, ◌^◌, ◌-◌, ◌*◌}
use Rattle.sk_nodes.specs.Accounts.{Spends}
use Rattle.sk_nodes.specs.Shapes.{shape_of, size_of, sides_on, sizes_in}
use Rattle.sk_nodes.specs.Left.{unread_of, unread_in}
use Rattle.sk_nodes.proofs.NodeLaws.{SidesSoFar}
use Rattle.sk_nodes.proofs.MoveLaws.{AccountsSoFar}
use Rattle.sk_nodes.proofs.FadingLaws.{FadesSoFar}
use Rattle.sk_nodes.specs.Proximity.{entries_unread}
use Rattle.sk_nodes.proofs.ManyLaws.{XorSoFar}
use Rattle.sk_nodes.proofs.OrManyLaws.{OrSoFar}
use Rattle.sk_nodes.proofs.ProximityLaws.{TestSoFar}
use Rattle.sk_nodes.proofs.moves.+seek.Given as goal

abbrev pub decreases-reach : goal.decreases-reach
decreases-reach g l = 5 * size_of (shape_of l.node.now) + 3

abbrev pub decreases-reach_inner : goal.decreases-reach_inner
decreases-reach_inner g l = 5 * size_of (shape_of l.node.now) + 2

abbrev pub decreases-seek : goal.decreases-seek
decreases-seek g l = 5 * size_of (shape_of l.node.now) + 1

abbrev pub decreases-seek_sides : goal.decreases-seek_sides
decreases-seek_sides g l = 5 * (size_of (shape_of l.a.now) + size_of (shape_of l.b.now)) + 5

abbrev pub decreases-seek_pair : goal.decreases-seek_pair
decreases-seek_pair g l = 5 * (size_of (shape_of l.a.now) + size_of (shape_of l.b.now)) + 4

abbrev pub invariant-seek_pair-sides : goal.invariant-seek_pair-sides
invariant-seek_pair-sides g l = record {
  far : SidesSoFar l.index l.form l.target l.need l.from l.fn.ta (shape_of l.fn.a) l.fn.tb (shape_of l.fn.b) l.ta (shape_of l.a) l.tb (shape_of l.b);
  accounts : AccountsSoFar l.index l.form l.target l.need l.from l.fn.spent l.spent l.fn.ta (shape_of l.fn.a) l.fn.tb (shape_of l.fn.b) l.ta (shape_of l.a) l.tb (shape_of l.b);
  fades : FadesSoFar l.index l.form l.target l.from l.fn.spent l.spent l.fn.ta (shape_of l.fn.a) l.fn.tb (shape_of l.fn.b) l.ta (shape_of l.a) l.tb (shape_of l.b);
  spends : Spends (unread_of l.index (shape_of l.fn.a) + unread_of l.index (shape_of l.fn.b)) (unread_of l.index (shape_of l.a) + unread_of l.index (shape_of l.b)) l.fn.spent l.spent l.fn.steps l.steps;
}

abbrev pub decreases-seek_pair-sides : goal.decreases-seek_pair-sides
decreases-seek_pair-sides g l = 2 ^ 32 - l.from

abbrev pub decreases-seek_xor_many : goal.decreases-seek_xor_many
decreases-seek_xor_many g l = 5 * sizes_in (sides_on l.tops.now l.nodes.now) + 4

abbrev pub decreases-seek_or_many : goal.decreases-seek_or_many
decreases-seek_or_many g l = 5 * sizes_in (sides_on l.tops.now l.nodes.now) + 5

abbrev pub decreases-seek_some : goal.decreases-seek_some
decreases-seek_some g l = 5 * sizes_in (sides_on l.tops.now l.nodes.now) + 4

abbrev pub decreases-lead : goal.decreases-lead
decreases-lead g l = 5 * sizes_in (sides_on l.tops.now l.nodes.now) + 2

abbrev pub decreases-weigh : goal.decreases-weigh
decreases-weigh g l = 5 * sizes_in (sides_on l.tops.now l.nodes.now) + 2

abbrev pub invariant-seek_some-matches : goal.invariant-seek_some-matches
invariant-seek_some-matches g l = record {
  far : OrSoFar l.index l.target l.need l.from l.fn.spent l.spent (sides_on l.fn.tops l.fn.nodes) (sides_on l.tops l.nodes);
  within : l.from < 2 ^ 32;
  spends : Spends (unread_in l.index (sides_on l.fn.tops l.fn.nodes)) (unread_in l.index (sides_on l.tops l.nodes)) l.fn.spent l.spent l.fn.steps l.steps;
}

abbrev pub decreases-seek_some-matches : goal.decreases-seek_some-matches
decreases-seek_some-matches g l = 2 ^ 32 - l.from

abbrev pub decreases-seek_all : goal.decreases-seek_all
decreases-seek_all g l = 5 * sizes_in (sides_on l.tops.now l.nodes.now) + 4

abbrev pub decreases-reach_all : goal.decreases-reach_all
decreases-reach_all g l = 5 * sizes_in (sides_on l.tops.now l.nodes.now) + 3

abbrev pub decreases-reach_few : goal.decreases-reach_few
decreases-reach_few g l = 5 * sizes_in (sides_on l.tops.now l.nodes.now) + 2

abbrev pub invariant-seek_xor_many-all : goal.invariant-seek_xor_many-all
invariant-seek_xor_many-all g l = record {
  far : XorSoFar l.index l.target l.from (sides_on l.fn.tops l.fn.nodes) (sides_on l.tops l.nodes);
  spends : Spends (unread_in l.index (sides_on l.fn.tops l.fn.nodes)) (unread_in l.index (sides_on l.tops l.nodes)) l.fn.spent l.spent l.fn.steps l.steps;
}

abbrev pub decreases-seek_xor_many-all : goal.decreases-seek_xor_many-all
decreases-seek_xor_many-all g l = 2 ^ 32 - l.from

abbrev pub decreases-seek_positional : goal.decreases-seek_positional
decreases-seek_positional g l = 5 * size_of (shape_of l.node.now) + 4

abbrev pub decreases-seek_synonym : goal.decreases-seek_synonym
decreases-seek_synonym g l = 5 * size_of (shape_of l.node.now) + 4

abbrev pub invariant-seek_positional-tests : goal.invariant-seek_positional-tests
invariant-seek_positional-tests g l = record {
  far : TestSoFar l.index l.target l.need l.from l.fn.test l.fn.below (shape_of l.fn.node) l.test l.below (shape_of l.node);
  spends : Spends (unread_of l.index (shape_of l.fn.node) + entries_unread l.index l.fn.test.next l.fn.test.numbers.items) (unread_of l.index (shape_of l.node) + entries_unread l.index l.test.next l.test.numbers.items) l.fn.spent l.spent l.fn.steps l.steps;
}

abbrev pub decreases-seek_positional-tests : goal.decreases-seek_positional-tests
decreases-seek_positional-tests g l = 2 ^ 32 - l.from
