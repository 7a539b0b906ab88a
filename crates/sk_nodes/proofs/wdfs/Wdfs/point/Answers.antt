-- What is written is what the entry at the cursor says.
use Rattle.std.proofs.Common.{◌≡◌, ◌*◌, ℕ, refl, arith}
use Rattle.sk_nodes.specs.Leaves.{runs_of}
use Rattle.sk_nodes.specs.Shapes.{leaf_at}
use Rattle.sk_nodes.proofs.LeafLaws.{leaf_shown}
use Rattle.sk_nodes.proofs.wdfs.Wdfs.point.Goals as goal

once : (w : ℕ) → w ≡ w * 1
once w = omega arith

pub returns-in-Some-clause-top : goal.returns-in-Some-clause-top
returns-in-Some-clause-top c i on =
    let l = leaf_at c.args.mark.now c.args.self.now in
    leaf_shown i _ l c.in-Some.id c.wdf-wdf.result on (c.in-Some.ensures (runs_of i l.source) on.on) (c.wdf-wdf.ensures (runs_of i l.source) on.on)
    c.from-mark.ensures (once c.wdf-wdf.result) refl
