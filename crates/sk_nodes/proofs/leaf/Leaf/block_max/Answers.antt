-- A wdf that is no greater weighs no more.
use Rattle.std.proofs.Common.{◌≤◌, ◌∙◌, unwrap_or, ap, subst, sym}
use Rattle.sk_lists.specs.Lists.{Runs}
use Rattle.sk_lists.specs.Seeks.{AreWithin}
use Rattle.sk_lists.specs.Cursor.{left}
use Rattle.sk_model.specs.Weights.{weigh_by}
use Rattle.sk_nodes.specs.Leaves.{leaf_rest, entries_of}
use Rattle.sk_nodes.proofs.BlockLaws.{within_bound}
use Rattle.sk_nodes.proofs.leaf.Leaf.block_max.Goals as goal

pub returns-clause-bound : goal.returns-clause-bound
returns-clause-bound c id from to =
    let l = c.args.self.now in
    let within = subst (λ (rs : Runs). AreWithin c.args.target c.block_max-block.result.last c.block_max-block.result.greatest (left l.cursor rs)) c.list_of-list.ensures.runs c.block_max-block.ensures.within in
    subst (λ n. unwrap_or (leaf_rest c.args.index.now l id) 0 ≤ n) (ap (λ n. weigh_by l.factor l.scheme n) (sym c.from-2.ensures) ∙ sym c.weigh_by.ensures.value)
    (within_bound l.factor l.scheme c.args.target c.block_max-block.result.last c.block_max-block.result.greatest id (entries_of c.args.index.now l) within from (subst (λ n. id ≤ n) c.from.ensures to))
