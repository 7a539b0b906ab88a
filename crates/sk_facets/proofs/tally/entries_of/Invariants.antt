use Rattle.std.proofs.Common.{◌≡◌, ◌++◌}
use Rattle.sk_facets.proofs.tally.entries_of.Given as goal

abbrev pub invariant-counts : goal.invariant-counts
invariant-counts l = l.entries.items ++ l.entry-iterator ≡ l.fn.counts.entries
