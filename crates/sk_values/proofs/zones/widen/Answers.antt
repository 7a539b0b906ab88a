-- The id's zone tells of the value.
use Rattle.std.proofs.Common.{slice_set, sym, subst, arith}
use Rattle.sk_values.specs.Zones.{IsToldAt}
use Rattle.sk_values.proofs.ZoneLaws.{told_set}
use Rattle.sk_values.proofs.zones.widen.Goals as goal

pub returns-clause-told : goal.returns-clause-told
returns-clause-told c =
    subst (λ k. IsToldAt (slice_set c.zones.zones.items k c.widen.new.self) c.args.id c.args.value.now) (sym c.zone_of-at.ensures)
    (told_set c.zones.zones.items c.args.id c.args.value.now c.widen.new.self (omega (arith, c.zones-test.false, c.len.ensures, c.zone_of-at.ensures)) c.widen.ensures.tells)
