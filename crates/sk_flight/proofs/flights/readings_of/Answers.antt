use Rattle.std.proofs.Common.{◌≡◌, ◌++◌, [], ◌∷◌, ℕ, List, sym, ap, subst, ◌∙◌, append_assoc}
use Rattle.std.specs.List.{AllByRecursion}
use Rattle.sk_flight.specs.declared.flight.Flight.{Flight}
use Rattle.sk_flight.specs.Kept.{IsFlight, spent_in}
use Rattle.sk_flight.proofs.OpenLemmas.{each_flight}
use Rattle.sk_flight.proofs.flights.readings_of.Goals as goal

pub flights-init : goal.flights-init
flights-init c =
    let same = c.into_iter-number-iterator.ensures.into_iter_gives ∙ c.iter-number-items.ensures.rest in (
      ap (λ ns. ns ++ spent_in c.into_iter-number-iterator.result) c.new-readings.ensures.items ∙ ap spent_in same,
      subst (AllByRecursion (λ (e : ℕ × Flight). IsFlight e.1)) (sym same) (each_flight c.args.flights.now.entries c.requires),
    )

pub flights-preserved : goal.flights-preserved
flights-preserved c =
    let readings = c.flights.readings.items in
    let number = c.in-Some.number.now in
    let left = c.next.new.self in
    let all = subst (AllByRecursion (λ (e : ℕ × Flight). IsFlight e.1)) c.in-Some.ensures.steps c.flights.invariant.1 in (
      ap (λ ns. ns ++ spent_in left) c.in_ok-push.ensures.items ∙ append_assoc readings ((number, c.spent.result) ∷ []) (spent_in left)
          ∙ ap (λ (n : ℕ). readings ++ ((number, n) ∷ spent_in left)) c.spent.ensures ∙ ap (λ (es : List (ℕ × Flight)). readings ++ spent_in es) (sym c.in-Some.ensures.steps)
          ∙ c.flights.invariant.0,
      all.1,
    )
