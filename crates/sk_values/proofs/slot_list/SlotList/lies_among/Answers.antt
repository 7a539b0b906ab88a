-- The entries of a piece are some of all.
use Rattle.std.proofs.Common.{◌<◌, List, length, ap, sym, subst, arith}
use Rattle.sk_sorted.proofs.RunEditLaws.{run_read}
use Rattle.sk_values.specs.SlotValues.{SlotValues, SlotRuns}
use Rattle.sk_values.specs.declared.zones.Zone.{Zone}
use Rattle.sk_values.specs.Zones.{AreZoned}
use Rattle.sk_values.proofs.ZoneLaws.{zoned_piece}
use Rattle.sk_values.proofs.slot_list.SlotList.lies_among.Goals as goal

pub lie_among-requires-clause-zoned : goal.lie_among-requires-clause-zoned
lie_among-requires-clause-zoned c =
    let lt : c.args.at < length c.self.inside.entries = omega (arith, c.requires.there, ap (λ (s : SlotRuns). length s) c.self.view_is) in
    subst (λ (zs : List Zone). AreZoned zs c.index-pieces-at.result) (sym c.deref.ensures.value)
    (subst (λ (es : SlotValues). AreZoned c.self.inside.zones.items es) (sym (run_read c.pieces.result.now c.self.inside.entries c.args.at c.index-pieces-at.result c.pieces.ensures.value c.index-pieces-at.is lt))
    (zoned_piece c.self.inside.zones.items c.self.inside.entries c.args.at c.self.invariant.1))
