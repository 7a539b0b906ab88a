-- Sides that are sound are marks that can be kept, and begin where the queue and the longest meet.
use Rattle.std.proofs.Common.{List, sym, subst, arith}
use Rattle.sk_buckets.specs.declared.mark.Mark.{Mark}
use Rattle.sk_nodes.specs.Shapes.{or_many, merged}
use Rattle.sk_nodes.specs.Sound.{IsTop, AreSound}
use Rattle.sk_nodes.proofs.MergeLaws.{are_marks}
use Rattle.sk_nodes.proofs.merge.merge_of.Goals as goal

pub new-requires : goal.new-requires
new-requires c = are_marks c.args.index.now c.args.marks.items c.args.leaves.items c.requires.sound.others c.requires.few (omega (arith, c.requires.fits))

pub returns-clause-top : goal.returns-clause-top
returns-clause-top c =
    c.meet-top.ensures.top c.args.index.now c.args.longest (merged c.args.marks.items c.args.leaves.items) c.requires.sound
    (subst (λ (ms : List Mark). IsTop c.args.index.now c.first_top-first.result.0 (or_many (merged ms c.args.leaves.items))) c.in_ok-queue.ensures
    (c.first_top-first.ensures.top c.args.index.now c.args.leaves.items (subst (λ (ms : List Mark). AreSound c.args.index.now (merged ms c.args.leaves.items)) (sym c.in_ok-queue.ensures) c.requires.sound.others)))
