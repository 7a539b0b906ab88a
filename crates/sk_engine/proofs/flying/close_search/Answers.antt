use Rattle.std.proofs.Common.{◌≡◌, sym, ◌∙◌, arith}
use Rattle.sk_engine.proofs.FlightLaws.{closed_owes, closed_so}
use Rattle.sk_engine.proofs.flying.close_search.Goals as goal

pub overflow_sub-reads : goal.overflow_sub-reads
overflow_sub-reads g c =
    (closed_owes c.args.number c.args.flights.now c.finish.new.self c.in_ok-finish.field-0 c.in-Found.paging c.in-Found.report c.in-Some.spent c.in-Found.is c.in_ok-finish.ensures.ends (sym c.spent.ensures.value ∙ c.in-Some.is)).0

pub returns-in-Found-clause-flies : goal.returns-in-Found-clause-flies
returns-in-Found-clause-flies g c =
    closed_so c.args.number c.args.flights.now c.finish.new.self c.in_ok-finish.field-0 c.in-Found.paging c.in-Found.report c.in-Some.spent c.args.flights.now.newest.schema c.finish.ensures.keeps c.in-Found.is c.in_ok-finish.ensures.ends
    (sym c.spent.ensures.value ∙ c.in-Some.is)

pub returns-in-Found-clause-cost : goal.returns-in-Found-clause-cost
returns-in-Found-clause-cost g c =
    let owes = closed_owes c.args.number c.args.flights.now c.finish.new.self c.in_ok-finish.field-0 c.in-Found.paging c.in-Found.report c.in-Some.spent c.in-Found.is c.in_ok-finish.ensures.ends (sym c.spent.ensures.value ∙ c.in-Some.is) in
    let le = owes.0 in
    let gone = owes.1 in
    let told = owes.2 in
    let cost = c.in_ok-finish.ensures.cost in
    omega (arith, le, gone, told, cost)
