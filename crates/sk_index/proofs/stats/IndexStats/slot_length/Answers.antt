-- The list of the slot has an entry for each document that has a value.
use Rattle.std.proofs.Common.{ap, ◌∙◌, length}
use Rattle.sk_index.proofs.NumberLemmas.{length-slot_values}
use Rattle.sk_index.proofs.stats.IndexStats.slot_length.Goals as goal

pub returns : goal.returns
returns c = c.length.ensures.value ∙ ap length (c.list.ensures.entries ∙ c.slot_lists.ensures.entries c.args.slot) ∙ length-slot_values c.args.slot c.args.self.now.live.documents
