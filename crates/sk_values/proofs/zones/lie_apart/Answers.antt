-- The zones from that of the first entry to that of the last have all values.
use Rattle.std.proofs.Common.{◌≡◌, ◌<◌, length, ap, sym, ◌∙◌, arith}
use Rattle.std.proofs.lemmas.Bool.{ltb-true}
use Rattle.sk_sorted.specs.Entries.{top_id}
use Rattle.sk_sorted.specs.Places.{id_at}
use Rattle.sk_values.specs.SlotValues.{SlotValues}
use Rattle.sk_values.specs.Zones.{zone_of}
use Rattle.sk_values.proofs.ZoneLaws.{first_read, first_to_last, none_behind, part_misses}
use Rattle.sk_values.proofs.zones.lie_apart.Goals as goal

pub zones_from-requires : goal.zones_from-requires
zones_from-requires c =
    let there : c.args.place < length c.args.piece.now = omega (arith, ltb-true c.args.place (length c.as_slice.result.now) (sym c.in-Some.ensures.lookup.0), ap (λ (es : SlotValues). length es) c.as_slice.ensures.value) in
    let first : c.in-Some.first.now.0 ≡ id_at c.args.piece.now c.args.place
    = first_read c.args.piece.now c.args.place c.as_slice.ensures.sound there c.as_slice.result.now c.in-Some.first.now c.as_slice.ensures.value c.in-Some.ensures.lookup.1 in
    omega (arith, first_to_last c.args.piece.now c.args.place c.as_slice.ensures.sound there, c.zone_of-from.ensures, ap zone_of first)

pub returns-in-Some-zones_from : goal.returns-in-Some-zones_from
returns-in-Some-zones_from c e lo hi low high =
    let there : c.args.place < length c.args.piece.now = omega (arith, ltb-true c.args.place (length c.as_slice.result.now) (sym c.in-Some.ensures.lookup.0), ap (λ (es : SlotValues). length es) c.as_slice.ensures.value) in
    let first : c.in-Some.first.now.0 ≡ id_at c.args.piece.now c.args.place
    = first_read c.args.piece.now c.args.place c.as_slice.ensures.sound there c.as_slice.result.now c.in-Some.first.now c.as_slice.ensures.value c.in-Some.ensures.lookup.1 in
    let from : c.zone_of-from.result ≡ zone_of (id_at c.args.piece.now c.args.place) = c.zone_of-from.ensures ∙ ap zone_of first in
    none_behind c.args.piece.now c.args.place c.as_slice.ensures.sound there lo hi c.args.least c.args.greatest c.ranges.least.fits low high c.args.zones.now c.requires.zoned
    (λ k onward within. part_misses c.args.zones.now c.in-Some-zones_from.zones.now c.zone_of-from.result (zone_of (top_id 0 c.args.piece.now)) c.in-Some-zones_from.ensures c.args.least c.args.greatest (c.all_miss.ensures e) k (omega (arith, from, onward)) within)
