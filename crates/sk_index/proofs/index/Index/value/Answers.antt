-- What is found in the list of the slot is the document's value.
use Rattle.std.proofs.Common.{ap, ◌∙◌}
use Rattle.sk_values.specs.SlotValues.{found_value}
use Rattle.sk_index.proofs.StandsLemmas.{found_value-slot_values}
use Rattle.sk_index.proofs.index.Index.value.Goals as goal

pub returns-clause-value : goal.returns-clause-value
returns-clause-value g c =
    c.get.ensures.value ∙ ap (found_value c.args.id) (c.list.ensures.entries ∙ c.slot_lists.ensures.entries c.args.slot)
    ∙ found_value-slot_values 0 c.args.slot c.args.id c.args.self.now.live.documents c.slot_lists.ensures.rising
