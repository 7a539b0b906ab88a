-- What is written is what the entry at the cursor says.
use Rattle.std.proofs.Common.{refl, ap, ◌∙◌}
use Rattle.sk_model.specs.Weights.{weigh_by}
use Rattle.sk_nodes.specs.Leaves.{runs_of, entries_of}
use Rattle.sk_nodes.proofs.LeafLaws.{leaf_shown, head_of-Some}
use Rattle.sk_nodes.proofs.leaf.Leaf.show.Goals as goal

pub returns-in-Some-clause-top : goal.returns-in-Some-clause-top
returns-in-Some-clause-top c i on =
    let l = c.args.self.now in
    leaf_shown i _ l c.in-Some.id c.wdf-wdf.result on (c.in-Some.ensures (runs_of i l.source) on.on) (c.wdf-wdf.ensures (runs_of i l.source) on.on)
    c.from-top.ensures (c.weigh_by-top.ensures.value ∙ ap (weigh_by l.factor l.scheme) c.from.ensures) refl

pub returns-in-Some-clause-at : goal.returns-in-Some-clause-at
returns-in-Some-clause-at c i on =
    let l = c.args.self.now in
    c.from-top.ensures ∙ head_of-Some c.in-Some.id (entries_of i l) (c.in-Some.ensures (runs_of i l.source) on.on)
