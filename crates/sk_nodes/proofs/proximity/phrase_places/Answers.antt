-- The numbers were given for terms. Where two terms are too far apart, no phrase is there.
use Rattle.std.proofs.Common.{ℕ, ◌+◌, get_or, subst, arith}
use Rattle.sk_dict.specs.Terms.{term_at}
use Rattle.sk_model.specs.Edits.{document_at}
use Rattle.sk_packed.specs.Apart.{AreApart}
use Rattle.sk_index.specs.Indexed.{term_positions}
use Rattle.sk_nodes.proofs.PhraseLaws.{apart_fails}
use Rattle.sk_nodes.proofs.ProximityLaws.{there_all}
use Rattle.sk_nodes.proofs.proximity.phrase_places.Goals as goal

pub all_places_unless_apart-requires-clause-there : goal.all_places_unless_apart-requires-clause-there
all_places_unless_apart-requires-clause-there g c = there_all c.args.index.now c.args.numbers.now c.requires.there

pub returns-clause-fails : goal.returns-clause-fails
returns-clause-fails g c none =
    let at = λ (n : ℕ). term_positions (term_at c.args.index.now.terms n) (document_at c.args.id c.args.index.now.live.documents) in
    apart_fails c.args.window c.args.pair at c.args.numbers.now (c.requires.pair (omega arith))
    (subst (λ w. AreApart w (at (get_or c.args.numbers.now c.args.pair 0)) (at (get_or c.args.numbers.now (c.args.pair + 1) 0))) c.pair_width-width.ensures (c.all_places_unless_apart.ensures.apart none))
