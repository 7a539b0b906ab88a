use Rattle.std.proofs.Common.{◌≡◌, ◌≤◌, ◌+◌, is_some, unwrap_or, ap, sym, ◌∙◌, true≢false, arith}
use Rattle.sk_report.specs.Flights.{owed}
use Rattle.sk_engine.proofs.FlightLaws.{turns_of, turned_spent, turned_so}
use Rattle.sk_engine.proofs.flying.turn_search.Goals as goal

pub unreachable-requires-in_default-spent : goal.unreachable-requires-in_default-spent
unreachable-requires-in_default-spent g c =
    let turns = turns_of c.args.number c.args.times c.args.flights.now.flights c.turns.new.self.flights c.in_ok-turn.field-0 c.in-Some-2.turn c.in-Some-2.is c.in_ok-turn.ensures.turns in
    let it = turned_spent c.args.number c.args.times c.args.flights.now c.turns.new.self c.in-Some-2.turn turns c.in-Some.before (sym c.spent.ensures.value ∙ c.in-Some.is) c.spent-2.result c.spent-2.ensures.value in
    true≢false (ap is_some (sym it.1 ∙ c.in_default-spent.is))

pub overflow_sub-result : goal.overflow_sub-result
overflow_sub-result g c =
    let turns = turns_of c.args.number c.args.times c.args.flights.now.flights c.turns.new.self.flights c.in_ok-turn.field-0 c.in-Some-2.turn c.in-Some-2.is c.in_ok-turn.ensures.turns in
    let it = turned_spent c.args.number c.args.times c.args.flights.now c.turns.new.self c.in-Some-2.turn turns c.in-Some.before (sym c.spent.ensures.value ∙ c.in-Some.is) c.spent-2.result c.spent-2.ensures.value in
    let same = ap (λ o. unwrap_or o 0) (sym it.1 ∙ c.in-Some-spent.is) in
    let later = it.2 in
    omega (arith, same, later)

pub returns-clause-flies : goal.returns-clause-flies
returns-clause-flies g c =
    let turns = turns_of c.args.number c.args.times c.args.flights.now.flights c.turns.new.self.flights c.in_ok-turn.field-0 c.in-Some-2.turn c.in-Some-2.is c.in_ok-turn.ensures.turns in
    let it = turned_spent c.args.number c.args.times c.args.flights.now c.turns.new.self c.in-Some-2.turn turns c.in-Some.before (sym c.spent.ensures.value ∙ c.in-Some.is) c.spent-2.result c.spent-2.ensures.value in
    let same = ap (λ o. unwrap_or o 0) (sym it.1 ∙ c.in-Some-spent.is) in
    let later = it.2 in
    let owes = it.3 in
    let le : c.in-Some.before ≤ c.in-Some-spent.after = omega (arith, same, later) in
    let more : owed c.turns.new.self.flights + c.in-Some.before ≡ owed c.args.flights.now.flights + c.in-Some-spent.after = omega (arith, same, owes) in
    turned_so c.args.number c.args.times c.args.flights.now c.turns.new.self c.in-Some-2.turn turns c.args.flights.now.newest.schema c.turns.ensures.keeps c.is_done.result (sym c.is_done.ensures) c.in-Some.before c.in-Some-spent.after le more

pub returns-clause-cost : goal.returns-clause-cost
returns-clause-cost g c =
    let turns = turns_of c.args.number c.args.times c.args.flights.now.flights c.turns.new.self.flights c.in_ok-turn.field-0 c.in-Some-2.turn c.in-Some-2.is c.in_ok-turn.ensures.turns in
    let it = turned_spent c.args.number c.args.times c.args.flights.now c.turns.new.self c.in-Some-2.turn turns c.in-Some.before (sym c.spent.ensures.value ∙ c.in-Some.is) c.spent-2.result c.spent-2.ensures.value in
    let same = ap (λ o. unwrap_or o 0) (sym it.1 ∙ c.in-Some-spent.is) in
    let later = it.2 in
    let owes = it.3 in
    let cost = c.in_ok-turn.ensures.cost in
    omega (arith, same, later, owes, cost)
