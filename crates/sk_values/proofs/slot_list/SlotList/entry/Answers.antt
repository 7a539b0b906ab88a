-- What is read in the piece is the entry of the whole.
use Rattle.std.proofs.Common.{sym, ◌∙◌}
use Rattle.sk_values.proofs.CursorLemmas.{entry_at}
use Rattle.sk_values.proofs.slot_list.SlotList.entry.Goals as goal

pub returns-clause-id : goal.returns-clause-id
returns-clause-id g c =
    c.entry-id.ensures.id
    ∙ sym (entry_at c.pieces-pieces.result.now c.args.self.now c.piece_at-at.result.0 c.piece_at-at.result.1 c.args.i c.index-pieces-at.result c.pieces-pieces.ensures.value c.piece_at-at.ensures.there c.piece_at-at.ensures.place c.piece_at-at.ensures.before
    c.piece_at-at.ensures.within c.index-pieces-at.is).id

pub returns-clause-value : goal.returns-clause-value
returns-clause-value g c =
    c.as_slice.ensures ∙ c.entry-id.ensures.value
    ∙ sym (entry_at c.pieces-pieces.result.now c.args.self.now c.piece_at-at.result.0 c.piece_at-at.result.1 c.args.i c.index-pieces-at.result c.pieces-pieces.ensures.value c.piece_at-at.ensures.there c.piece_at-at.ensures.place c.piece_at-at.ensures.before
    c.piece_at-at.ensures.within c.index-pieces-at.is).value
