use Rattle.sk_match.proofs.TurnLemmas.{fits_head}
use Rattle.sk_match.proofs.open_search.Search.look.Goals as goal

-- it may see the document at its head
pub see-requires : goal.see-requires
see-requires g c =
    let i = c.args.index.now in
    let on = c.requires.on in
    let tree = on.2.built.tree in
    fits_head i c.args.self.now on.0 on.1 on.2 c.in-Some.id c.weight-weight.result (c.in-Some.ensures i tree) (c.weight-weight.ensures i tree) c.ceiling-ceiling.result c.ceiling-ceiling.ensures.value (c.ceiling-ceiling.ensures.bound i tree)
