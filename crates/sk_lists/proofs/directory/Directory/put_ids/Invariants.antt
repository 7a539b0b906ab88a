-- The ids of the chunks that were gone over stand behind the first ones.
use Rattle.std.proofs.Common.{◌≡◌, ◌++◌, take}
use Rattle.sk_sorted.specs.Entries.{ids_of}
use Rattle.sk_sorted.specs.Runs.{flat}
use Rattle.sk_lists.proofs.directory.Directory.put_ids.Given as goal

abbrev pub invariant-chunks : goal.invariant-chunks
invariant-chunks l = record {
  same : l.self ≡ l.fn.self;
  ids : l.ids.items ≡ l.fn.ids.items ++ ids_of (flat (take l.at l.fn.self));
}
