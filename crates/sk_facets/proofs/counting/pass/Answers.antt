use Rattle.std.proofs.Common.{refl, ◌∙◌}
use Rattle.sk_tree.specs.Built.{left}
use Rattle.sk_facets.proofs.CountLemmas.{left_sorted, from_first, none_behind}
use Rattle.sk_facets.proofs.counting.pass.Goals as goal

pub returns-then-id-eq4294967295-clause-left : goal.returns-then-id-eq4294967295-clause-left
returns-then-id-eq4294967295-clause-left g c =
    c.close.ensures.left c.args.index.now
    ∙ none_behind c.args.id (left c.args.index.now c.args.tree.now) (left_sorted c.args.index.now c.args.tree.now c.requires.tree.documents) c.requires.head c.if-id-eq4294967295.true

pub returns-else-id-eq4294967295-clause-left : goal.returns-else-id-eq4294967295-clause-left
returns-else-id-eq4294967295-clause-left g c =
    c.seek.ensures.exact refl
    ∙ from_first c.args.id (left c.args.index.now c.args.tree.now) (left_sorted c.args.index.now c.args.tree.now c.requires.tree.documents) c.requires.head
