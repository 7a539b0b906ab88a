-- The lists of the terms before this one are opened, but the one that stands apart.
use Rattle.std.proofs.Common.{◌≡◌, ◌≤◌, length, map, take}
use Rattle.std.specs.List.{remove}
use Rattle.sk_dict.specs.Terms.{term_at}
use Rattle.sk_model.specs.Bounds.{lengths_of}
use Rattle.sk_nodes.specs.Shapes.{merged}
use Rattle.sk_nodes.specs.Left.{unread_in}
use Rattle.sk_tree.specs.Readings.{Pays, CountsReadings}
use Rattle.sk_tree.specs.Sums.{OpensSums}
use Rattle.sk_tree.proofs.synonym.open_others.Given as goal

abbrev pub invariant-numbers : goal.invariant-numbers
invariant-numbers g l = record {
  even : length l.marks.items ≡ length l.leaves.items;
  few : length l.marks.items ≤ l.which;
  opens : OpensSums l.index (merged l.marks.items l.leaves.items) (map (term_at l.index.terms) (remove (take l.which l.numbers) l.apart)) l.initial.spent l.spent;
  pays : Pays l.initial.spent l.spent l.initial.most l.most (unread_in l.index (merged l.marks.items l.leaves.items)) (lengths_of (map (term_at l.index.terms) (remove (take l.which l.numbers) l.apart)) l.index.live.documents);
  counts : CountsReadings l.initial.spent l.spent l.initial.steps l.steps l.most;
}
