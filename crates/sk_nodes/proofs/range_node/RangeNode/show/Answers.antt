-- What is written is where the cursor stands.
use Rattle.std.proofs.Common.{sym, ap, subst, ◌∙◌}
use Rattle.sk_sorted.specs.Entries.{first_id}
use Rattle.sk_values.specs.SlotValues.{SlotValues}
use Rattle.sk_values.specs.RangeCursor.{left}
use Rattle.sk_index.specs.Indexed.{pieces_in}
use Rattle.sk_nodes.specs.Shapes.{range}
use Rattle.sk_nodes.specs.Sound.{IsTop}
use Rattle.sk_nodes.proofs.RangeLaws.{range_top, range_head, range_first}
use Rattle.sk_nodes.proofs.range_node.RangeNode.show.Goals as goal

pub returns-in-Some-clause-top : goal.returns-in-Some-clause-top
returns-in-Some-clause-top c i on =
    let r = c.args.self.now in
    subst (λ n. IsTop i (record { head = n; weight = 0; greatest = 0 }) (range r)) (sym c.from-head.ensures)
    (range_top i r c.in-Some.id (range_head i r c.in-Some.id on (c.in-Some.ensures (pieces_in i r.slot) on.on ∙ ap (λ (es : SlotValues). first_id (left r.cursor es)) on.values)))

pub returns-in-Some-clause-at : goal.returns-in-Some-clause-at
returns-in-Some-clause-at c i on =
    let r = c.args.self.now in
    c.from-head.ensures ∙ range_first i r c.in-Some.id (c.in-Some.ensures (pieces_in i r.slot) on.on ∙ ap (λ (es : SlotValues). first_id (left r.cursor es)) on.values)
