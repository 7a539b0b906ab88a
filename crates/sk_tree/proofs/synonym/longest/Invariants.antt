-- None of the lists before this one is longer.
use Rattle.std.proofs.Common.{◌≤◌, ◌<◌, All, length, take, slice_index_or}
use Rattle.sk_nodes.specs.declared.leaf.ListOf.TheVariants as ListOf
use Rattle.sk_nodes.specs.Leaves.{list_in}
use Rattle.sk_tree.proofs.synonym.longest.Given as goal

abbrev pub invariant-numbers : goal.invariant-numbers
invariant-numbers l = record {
  within : l.longest < length l.numbers;
  most : l.most ≤ length (list_in l.index (ListOf.Term (slice_index_or l.numbers l.longest 0)));
  before : All (λ n. length (list_in l.index (ListOf.Term n)) ≤ l.most) (take l.which l.numbers);
}
