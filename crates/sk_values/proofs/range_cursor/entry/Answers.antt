-- What is read is the entry at the place.
use Rattle.sk_values.proofs.ValueLaws.{entry_read}
use Rattle.sk_values.proofs.range_cursor.entry.Goals as goal

pub returns-clause-id : goal.returns-clause-id
returns-clause-id g c =
    (entry_read c.args.piece.now c.as_slice.result.now c.args.i c.index-as_slice-i.result c.as_slice.ensures.value c.requires c.index-as_slice-i.is).id

pub returns-clause-value : goal.returns-clause-value
returns-clause-value g c =
    (entry_read c.args.piece.now c.as_slice.result.now c.args.i c.index-as_slice-i.result c.as_slice.ensures.value c.requires c.index-as_slice-i.is).value
