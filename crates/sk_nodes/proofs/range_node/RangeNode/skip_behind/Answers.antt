-- The cursor moved on in the list of the slot.
use Rattle.std.proofs.Common.{refl, subst}
use Rattle.sk_values.specs.SlotValues.{SlotValues, SlotRuns}
use Rattle.sk_values.specs.RangeCursor.{left, IsOn}
use Rattle.sk_values.specs.Behind.{SkipsOn}
use Rattle.sk_nodes.specs.declared.range_node.RangeNode.{RangeNode}
use Rattle.sk_nodes.proofs.RangeSkipLaws.{range_skipped}
use Rattle.sk_nodes.proofs.range_node.RangeNode.skip_behind.Goals as goal

pub returns-clause-some : goal.returns-clause-some
returns-clause-some g c =
    let i = c.args.index.now in
    let on = subst (λ (rs : SlotRuns). IsOn c.skip_behind.new.self rs) c.values-list.ensures.pieces c.in_ok-count.ensures.on in
    let skips = subst (λ (es : SlotValues). SkipsOn c.args.key.reverse c.args.last.now c.in_ok-count.count (left c.args.self.now.cursor es) (left c.skip_behind.new.self es)) c.values-list.ensures.entries c.in_ok-count.ensures.some in
    let new : RangeNode = record { slot = c.args.self.now.slot; cursor = c.skip_behind.new.self } in
    let sound = range_skipped i c.args.self.now new c.args.key.reverse c.args.last.now c.in_ok-count.count refl c.requires.sound on skips in
    record {
      slot = c.if-self-key.false;
      same = refl;
      on = sound;
      top = c.show.ensures.top i sound;
      ceiling = c.show.ensures.ceiling;
      skips = skips;
    }
