-- One list moved on, beside the others.
use Rattle.std.proofs.Common.{◌<◌, ◌^◌, ◌∙◌, List, set, sym, subst, ap, arith}
use Rattle.sk_buckets.specs.declared.mark.Mark.{Mark}
use Rattle.sk_nodes.specs.Shapes.{merged, leaf_at}
use Rattle.sk_nodes.specs.Left.{rests, unread_in}
use Rattle.sk_nodes.specs.Accounts.{Spends}
use Rattle.sk_nodes.specs.OrMany.{AreMoved}
use Rattle.sk_nodes.specs.Merge.{ids_left}
use Rattle.sk_nodes.proofs.MoveLaws.{accounts_leaf}
use Rattle.sk_nodes.proofs.MergeLaws.{top_one, room_one, moved_one, same_one, spends_one, fewer_left, one_accounts, one_sought}
use Rattle.sk_nodes.proofs.merge.move_on.Goals as goal

abbrev none : Mark
none = record { head = 0; weight = 0; greatest = 0 }

pub step-requires-clause-sound : goal.step-requires-clause-sound
step-requires-clause-sound g c =
    (top_one c.args.index.now c.args.queue.now c.args.leaves.now c.args.which c.mark_at-mark.result none _ (c.mark_at-mark.ensures none) c.requires.sides.sides c.requires.which c.requires.leaf).1

pub step-requires-clause-top : goal.step-requires-clause-top
step-requires-clause-top g c =
    (top_one c.args.index.now c.args.queue.now c.args.leaves.now c.args.which c.mark_at-mark.result none _ (c.mark_at-mark.ensures none) c.requires.sides.sides c.requires.which c.requires.leaf).0

pub step-requires-clause-below : goal.step-requires-clause-below
step-requires-clause-below g c =
    let at = ap (λ (m : Mark). m.head) (c.mark_at-mark.ensures none) in
    let below = c.requires.below none in
    omega (arith, at, below)

pub step-requires-clause-room : goal.step-requires-clause-room
step-requires-clause-room g c = room_one c.args.index.now c.args.queue.now c.args.leaves.now c.args.which c.args.spent.now (2 ^ 128) none _ c.requires.which c.requires.leaf c.requires.room

pub set-requires-clause-falls : goal.set-requires-clause-falls
set-requires-clause-falls g c =
    let was = ap (λ (m : Mark). m.greatest) (c.mark_at-mark.ensures c.step.new.mark) in
    omega (arith, was, c.step.ensures.falls)

pub returns-clause-moved : goal.returns-clause-moved
returns-clause-moved g c =
    let i = c.args.index.now in
    let was = c.mark_at-mark.ensures c.step.new.mark in
    subst (λ (ms : List Mark). AreMoved i c.args.target c.args.spent.now c.step.new.spent (merged c.args.queue.now c.args.leaves.now) (merged ms (set c.args.leaves.now c.args.which c.step.new.self))) (sym c.set.ensures)
    (moved_one i c.args.target c.args.spent.now c.step.new.spent c.args.steps.now c.step.new.steps c.args.queue.now c.args.leaves.now c.args.which c.step.new.mark c.step.new.self _ c.requires.sides.sides c.requires.which c.requires.leaf
    (one_sought i c.args.target c.args.spent.now c.step.new.spent c.args.steps.now c.step.new.steps c.mark_at-mark.result _ c.step.new.mark _ c.step.new.self was c.step.ensures.falls c.step.ensures.lands c.step.ensures.spends)
    (one_accounts i c.args.target c.args.spent.now c.step.new.spent c.mark_at-mark.result _ _ (leaf_at c.step.new.mark c.step.new.self) was
    (accounts_leaf i c.args.target 0 c.args.spent.now c.step.new.spent _ (leaf_at c.step.new.mark c.step.new.self) c.requires.target c.step.ensures.walks c.step.ensures.moves c.step.ensures.spends.paid)))

pub returns-clause-same : goal.returns-clause-same
returns-clause-same g c id le =
    let i = c.args.index.now in
    ap (λ (ms : List Mark). rests i (merged ms (set c.args.leaves.now c.args.which c.step.new.self)) id) c.set.ensures
    ∙ same_one i c.args.target id c.args.queue.now c.args.leaves.now c.args.which c.step.new.mark c.step.new.self _ c.requires.which c.requires.leaf c.step.ensures.lands.covers le

pub returns-clause-spends : goal.returns-clause-spends
returns-clause-spends g c =
    let i = c.args.index.now in
    subst (λ (ms : List Mark). Spends (unread_in i (merged c.args.queue.now c.args.leaves.now)) (unread_in i (merged ms (set c.args.leaves.now c.args.which c.step.new.self))) c.args.spent.now c.step.new.spent c.args.steps.now c.step.new.steps) (sym c.set.ensures)
    (spends_one i c.args.queue.now c.args.leaves.now c.args.which c.step.new.mark c.step.new.self _ c.args.spent.now c.step.new.spent c.args.steps.now c.step.new.steps c.requires.which c.requires.leaf c.step.ensures.spends)

pub returns-clause-later : goal.returns-clause-later
returns-clause-later g c =
    let below = c.requires.below c.step.new.mark in
    subst (λ (ms : List Mark). ids_left ms < ids_left c.args.queue.now) (sym c.set.ensures)
    (fewer_left c.args.queue.now c.args.which c.step.new.mark c.requires.which (omega (arith, below, c.step.ensures.lands.reached)) c.step.ensures.lands.top.head.within)
