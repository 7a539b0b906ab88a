-- A range node begins with all values in its range.
use Rattle.std.proofs.Common.{◌≡◌, ◌∙◌, sym, subst, ap, arith}
use Rattle.sk_base.specs.declared.find.Scheme.{Scheme}
use Rattle.sk_sorted.specs.Runs.{flat}
use Rattle.sk_values.specs.SlotValues.{SlotValues, SlotRuns}
use Rattle.sk_values.specs.RangeCursor.{in_range, left, IsOn}
use Rattle.sk_nodes.specs.Leaves.{weighed}
use Rattle.sk_nodes.specs.RangeNode.{unweighed}
use Rattle.sk_nodes.proofs.RangeLaws.{range_opened}
use Rattle.sk_nodes.proofs.range_node.RangeNode.open.Goals as goal

pub returns-clause-yields : goal.returns-clause-yields
returns-clause-yields g c =
    let i = c.args.index.now in
    let kept = subst (λ (es : SlotValues). left c.open.result es ≡ in_range c.args.lo c.args.hi es) c.values-list.ensures.entries c.open.ensures.left in
    let on = range_opened i (record { slot = c.args.slot; cursor = c.open.result }) c.args.lo c.args.hi
    (subst (λ (rs : SlotRuns). IsOn c.open.result rs) c.values-list.ensures.pieces c.open.ensures.on)
    (ap (λ (rs : SlotRuns). flat rs) (sym c.values-list.ensures.pieces) ∙ c.values-list.ensures.entries) kept c.requires.documents in
    record {
      top = c.show.ensures.top i on;
      sound = on;
      gives = λ id. ap (λ (es : SlotValues). weighed 0 Scheme.Bool (unweighed es) id) kept;
      ceiling = omega (arith, c.show.ensures.ceiling);
    }
