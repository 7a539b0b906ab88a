use Rattle.std.proofs.Common.{◌≡◌, drop}
use Rattle.std.specs.List.{list_any}
use Rattle.sk_model.specs.Scores.{places_of}
use Rattle.sk_model.specs.Positions.{phrase_from}
use Rattle.sk_plain.proofs.positions.is_phrase.Given as goal

-- the places that were passed over will not do, so those that are left decide
abbrev pub invariant-places : goal.invariant-places
invariant-places l =
    list_any (λ p. phrase_from l.window p p (places_of l.rest l.terms)) (drop l.place-index l.place-items)
    ≡ list_any (λ p. phrase_from l.window p p (places_of l.rest l.terms)) l.place-items
