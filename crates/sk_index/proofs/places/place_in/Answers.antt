-- The number stands at the place, or at none.
use Rattle.std.proofs.Common.{ap, ◌∙◌}
use Rattle.sk_packed.specs.Packed.{positions_at_place}
use Rattle.sk_index.proofs.PlaceLemmas.{positions_numbered}
use Rattle.sk_index.proofs.places.place_in.Goals as goal

pub returns-then-len-le-FEW : goal.returns-then-len-le-FEW
returns-then-len-le-FEW c =
    ap (positions_at_place c.args.packed.now) c.found.ensures
    ∙ positions_numbered c.args.lists.now.terms c.args.packed.now c.args.number c.place_of.result c.term-term.ensures.sound.different c.requires.known c.requires.rising c.requires.there
    c.place_of.ensures.within c.place_of.ensures.none c.place_of.ensures.found
