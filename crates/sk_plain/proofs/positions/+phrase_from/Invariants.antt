use Rattle.std.proofs.Common.{◌≡◌, ◌&&◌, length, drop, nat_lt}
use Rattle.std.specs.List.{list_any}
use Rattle.sk_model.specs.Scores.{places_of}
use Rattle.sk_model.specs.Positions.{phrase_from}
use Rattle.sk_plain.proofs.positions.+phrase_from.Given as goal

abbrev pub decreases-phrase_from : goal.decreases-phrase_from
decreases-phrase_from l = length l.words.now

-- the places that were passed over will not do, so those that are left decide
abbrev pub invariant-places : goal.invariant-places
invariant-places l =
    list_any (λ p. nat_lt l.last p && phrase_from l.window l.start p (places_of l.rest l.terms)) (drop l.place-index l.place-items)
    ≡ list_any (λ p. nat_lt l.last p && phrase_from l.window l.start p (places_of l.rest l.terms)) l.place-items
