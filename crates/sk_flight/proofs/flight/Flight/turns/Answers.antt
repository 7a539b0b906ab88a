use Rattle.std.proofs.Common.{◌≡◌, refl, subst, arith}
use Rattle.sk_report.specs.Flights.{MayBeOpen}
use Rattle.sk_flight.specs.Kept.{Moves, Made, open_of}
use Rattle.sk_flight.proofs.TurnLemmas.{made_none, made_more, turned_done, turned_all}
use Rattle.sk_flight.proofs.flight.Flight.turns.Goals as goal

pub turns-init : goal.turns-init
turns-init g c = (c.requires.flight, made_none (open_of c.args.self.now), refl, omega arith)

pub turns-preserved : goal.turns-preserved
turns-preserved g c =
    let now = open_of c.turns.self in
    let next = open_of c.turn.new.self in
    let paid = c.in_ok-turn.ensures.cost in
    let later = c.in_ok-turn.ensures.later in
    let before = c.turns.invariant.2 in
    let from = c.turns.invariant.3 in (
      c.in_ok-turn.ensures.flight,
      made_more c.turns.counter (open_of c.args.self.now) now next c.turns.invariant.1 (subst (Moves now next) c.in-More.is c.in_ok-turn.ensures.moves),
      omega (arith, paid, before),
      omega (arith, later, from),
    )

pub returns-in-Done-clause-turned : goal.returns-in-Done-clause-turned
returns-in-Done-clause-turned g c =
    let now = open_of c.turns.self in
    let next = open_of c.turn.new.self in
    turned_done MayBeOpen c.args.times (open_of c.args.self.now) now c.turns.counter next c.turns.invariant.1 (subst (Moves now next) c.in-Done.is c.in_ok-turn.ensures.moves) c.turns-test.true
    c.in_ok-turn.ensures.flight.may

pub returns-in-Done-clause-ended : goal.returns-in-Done-clause-ended
returns-in-Done-clause-ended g c = (subst (Moves (open_of c.turns.self) (open_of c.turn.new.self)) c.in-Done.is c.in_ok-turn.ensures.moves).comes.1

pub returns-in-Done-clause-cost : goal.returns-in-Done-clause-cost
returns-in-Done-clause-cost g c = let paid = c.in_ok-turn.ensures.cost in let before = c.turns.invariant.2 in omega (arith, paid, before)

pub returns-clause-turned : goal.returns-clause-turned
returns-clause-turned g c =
    let all : c.turns.counter ≡ c.args.times = omega (arith, c.turns-test.false, c.turns.auto.counter-end) in
    turned_all MayBeOpen c.args.times (open_of c.args.self.now) (open_of c.turns.self) c.requires.some
    (subst (λ n. Made n (open_of c.args.self.now) (open_of c.turns.self)) all c.turns.invariant.1) c.turns.invariant.0.may

pub returns-clause-ended : goal.returns-clause-ended
returns-clause-ended g c = (c.turns.invariant.1.going (omega (arith, c.requires.some, c.turns-test.false))).1
