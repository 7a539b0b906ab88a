-- What stands at the places that were passed.
use Rattle.std.proofs.Common.{◌≡◌, map, take}
use Rattle.sk_base.specs.Documents.{positions_of}
use Rattle.sk_dict.specs.Terms.{term_at}
use Rattle.sk_packed.specs.Packed.{positions_at_place}
use Rattle.sk_terms.specs.Named.{named_all}
use Rattle.sk_index.proofs.all_places.look_up.Given as goal

abbrev pub invariant-terms : goal.invariant-terms
invariant-terms l =
    map (λ place. positions_at_place l.packed place.at) (take l.i l.places) ≡ map (λ n. positions_of (term_at l.lists.terms n) (named_all l.lists.terms l.packed)) (take l.i l.numbers)
