use Rattle.std.proofs.Common.{◌∙◌, arith}
use Rattle.sk_docs.proofs.SlotLemmas.{place_is, place_within, put_there}
use Rattle.sk_docs.proofs.slots.put_value.Goals as goal

pub insert-requires : goal.insert-requires
insert-requires c =
    let place = place_is _ _ _ _ _ _ c.unwrap_or-place.ensures c.first_above.ensures c.as_slice.ensures.value (c.len.ensures ∙ c.args.made.now.ok.0) in
    omega (arith, place_within c.args.slot _ c.args.made.now.items place, c.args.made.now.ok.0)

pub returns : goal.returns
returns c =
    let place = place_is _ _ _ _ _ _ c.unwrap_or-place.ensures c.first_above.ensures c.as_slice.ensures.value (c.len.ensures ∙ c.args.made.now.ok.0) in
    put_there _ _ _ _ c.args.made.now.items _ c.is_empty.result c.is_empty.ensures c.if-is_empty.false c.in_ok-value.ensures place c.in_ok-insert.ensures.items
