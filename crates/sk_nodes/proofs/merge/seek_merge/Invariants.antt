-- How far the lists have come, what is known of the longest, and how many ids the others may still be moved on by.
use Rattle.std.proofs.Common.{◌<◌, ◌^◌, ◌+◌, ◌-◌}
use Rattle.sk_nodes.specs.Accounts.{Spends}
use Rattle.sk_nodes.specs.Shapes.{gathered}
use Rattle.sk_nodes.specs.Left.{unread_in}
use Rattle.sk_nodes.specs.Merge.{ids_left, IsWithin}
use Rattle.sk_nodes.proofs.MergeLaws.{MergeSoFar}
use Rattle.sk_nodes.proofs.merge.seek_merge.Given as goal

abbrev pub invariant-lists : goal.invariant-lists
invariant-lists g l = record {
  far : MergeSoFar l.index l.target l.need l.from l.fn.spent l.spent (gathered l.fn.merge) (gathered l.merge);
  within : l.from < 2 ^ 32;
  block : IsWithin l.index l.merge.longest l.from l.block;
  last : l.block.last < 2 ^ 32;
  fits : l.block.greatest < 2 ^ 126;
  spends : Spends (unread_in l.index (gathered l.fn.merge)) (unread_in l.index (gathered l.merge)) l.fn.spent l.spent l.fn.steps l.steps;
}

abbrev pub decreases-lists : goal.decreases-lists
decreases-lists g l = ids_left l.merge.queue + (2 ^ 32 - l.from)
