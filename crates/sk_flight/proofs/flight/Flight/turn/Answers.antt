use Rattle.std.proofs.Common.{◌+◌, true, false, refl, sym, subst, arith}
use Rattle.sk_query.specs.Trees.{query_view}
use Rattle.sk_match.specs.Searches.{IsOn, is_done}
use Rattle.sk_flight.specs.Kept.{Flies, Moves, open_as, open_of}
use Rattle.sk_flight.proofs.FlightLemmas.{few_turns, is_on, moved, stayed, even_on, may_read, told_whole}
use Rattle.sk_flight.proofs.TurnLemmas.{done_from, going_from}
use Rattle.sk_flight.proofs.flight.Flight.turn.Goals as goal

pub turn-requires : goal.turn-requires
turn-requires g c =
    let old = c.args.self.now in
    record { on = subst (IsOn old.search) (sym c.as_ref.ensures) (is_on old.search old.revision.value old.paging (query_view old.query) old.turns old.is_done c.requires) }

pub overflow_add-self : goal.overflow_add-self
overflow_add-self g c =
    let old = c.args.self.now in
    let few = few_turns old.search old.revision.value old.paging (query_view old.query) old.turns old.is_done c.requires in
    omega (arith, few)

pub returns-in-More-clause-flight : goal.returns-in-More-clause-flight
returns-in-More-clause-flight g c =
    let old = c.args.self.now in
    let query = query_view old.query in
    let i = c.as_ref.result.now in
    let new = c.turn.new.self in
    let is : Flies old.search i old.paging query old.turns old.is_done = subst (λ i. Flies old.search i old.paging query old.turns old.is_done) (sym c.as_ref.ensures) c.requires in
    let past = c.in_ok-turn.ensures.past c.in-More.is in
    let stands = c.in_ok-turn.ensures.stands old.paging query is.stands in
    subst (λ i. Flies new i old.paging query (old.turns + 1) false) c.as_ref.ensures
    (moved old.search i old.paging query new old.turns old.is_done is stands (told_whole new c.spent.result c.spent.ensures.value c.if-spent.false)
    past (c.in_ok-turn.ensures.fewer c.in-More.is) (c.in_ok-turn.ensures.early c.in-More.is old.paging query is.stands)
    (may_read new c.spent.result c.spent.ensures.value c.if-spent.false i old.paging query (old.turns + 1) false c.spent.ensures.within c.spent.ensures.paced stands
    (even_on old.search i old.paging query new old.turns old.is_done is past)))

pub returns-in-Done-clause-flight : goal.returns-in-Done-clause-flight
returns-in-Done-clause-flight g c =
    let old = c.args.self.now in
    let query = query_view old.query in
    let i = c.as_ref.result.now in
    let is : Flies old.search i old.paging query old.turns old.is_done = subst (λ i. Flies old.search i old.paging query old.turns old.is_done) (sym c.as_ref.ensures) c.requires in
    subst (λ i. Flies c.turn.new.self i old.paging query old.turns true) c.as_ref.ensures
    (stayed old.search i old.paging query c.turn.new.self old.turns old.is_done is (c.in_ok-turn.ensures.same c.in-Done.is).0 (done_from (is_done i old.search) c.in_ok-turn.turn c.in_ok-turn.ensures.done c.in-Done.is)
    (c.in_ok-turn.ensures.enough c.in-Done.is old.paging query is.stands))

pub returns-in-More-clause-moves : goal.returns-in-More-clause-moves
returns-in-More-clause-moves g c =
    let old = c.args.self.now in
    let query = query_view old.query in
    let i = c.as_ref.result.now in
    let is : Flies old.search i old.paging query old.turns old.is_done = subst (λ i. Flies old.search i old.paging query old.turns old.is_done) (sym c.as_ref.ensures) c.requires in
    let paid = c.in_ok-turn.ensures.cost in
    let later = c.turn.ensures.later in
    subst (Moves (open_of old) (open_as c.turn.new.self old.revision.value old.paging query (old.turns + 1) false)) (sym c.in-More.is) (record {
      seeks = record { paging = refl; query = refl; documents = refl };
      comes = (refl, refl, going_from old.is_done (is_done i old.search) c.in_ok-turn.turn c.in_ok-turn.ensures.done c.in-More.is is.ended);
      later = omega (arith, paid, later);
    })
