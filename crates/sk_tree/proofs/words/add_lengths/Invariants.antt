-- What is left of the sum.
use Rattle.std.proofs.Common.{◌≡◌, ◌≤◌, ◌<◌, ◌+◌, ◌^◌, drop}
use Rattle.sk_nodes.specs.Proximity.{entries_unread, AreThere, AreInOrder}
use Rattle.sk_tree.proofs.words.add_lengths.Given as goal

abbrev pub invariant-numbers : goal.invariant-numbers
invariant-numbers l = record {
  there : AreThere l.index (drop l.number-index l.numbers);
  sorted : AreInOrder l.index (drop l.number-index l.numbers) → AreInOrder l.index l.numbers;
  sum : l.most + entries_unread l.index 0 (drop l.number-index l.numbers) ≡ l.initial.most + entries_unread l.index 0 l.numbers;
  later : l.initial.most ≤ l.most;
  small : l.initial.most < 2 ^ 128 → l.most < 2 ^ 128;
}
