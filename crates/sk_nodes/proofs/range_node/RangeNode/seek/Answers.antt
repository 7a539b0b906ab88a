-- The cursor moves on in the list of the slot.
use Rattle.std.proofs.Common.{◌≡◌, ◌≤◌, refl, sym, subst}
use Rattle.sk_sorted.specs.Entries.{from}
use Rattle.sk_values.specs.SlotValues.{SlotValues, SlotRuns}
use Rattle.sk_values.specs.RangeCursor.{left, IsOn}
use Rattle.sk_nodes.specs.declared.range_node.RangeNode.{RangeNode}
use Rattle.sk_nodes.proofs.RangeLaws.{range_covers, range_moved, range_reached}
use Rattle.sk_nodes.proofs.range_node.RangeNode.seek.Goals as goal

pub returns-clause-lands : goal.returns-clause-lands
returns-clause-lands g c need =
    let i = c.args.index.now in
    let on = subst (λ (rs : SlotRuns). IsOn c.seek-read.new.self rs) c.values-list.ensures.pieces c.seek-read.ensures.on in
    let kept = subst (λ (es : SlotValues). left c.seek-read.new.self es ≡ from c.args.target (left c.args.self.now.cursor es)) c.values-list.ensures.entries c.seek-read.ensures.left in
    let new : RangeNode = record { slot = c.args.self.now.slot; cursor = c.seek-read.new.self } in
    let sound = range_moved i c.args.self.now new c.args.target refl c.requires.sound on kept in
    record {
      top = c.show.ensures.top i sound;
      sound = sound;
      covers = range_covers i c.args.self.now new c.args.target refl c.requires.sound on kept need;
      reached = subst (λ n. c.args.target ≤ n) (sym (c.show.ensures.at i sound))
          (range_reached i c.args.self.now new c.args.target refl c.requires.sound on kept c.requires.target);
    }
