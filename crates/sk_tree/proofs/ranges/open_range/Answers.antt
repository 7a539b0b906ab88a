-- The entries in the range give what the documents score.
use Rattle.std.proofs.Common.{◌≡◌, ℕ, length, sym, subst, ap, ◌∙◌, arith, Option, List}
use Rattle.sk_base.specs.declared.find.Scheme.{Scheme}
use Rattle.sk_base.specs.Numbers.{slot_length_of}
use Rattle.sk_sorted.specs.Runs.{flat}
use Rattle.sk_values.specs.RangeCursor.{in_range}
use Rattle.sk_query.specs.Trees as Query
use Rattle.sk_query.specs.Trees.{limit_of}
use Rattle.sk_model.specs.Ranges.{end_of}
use Rattle.sk_model.specs.Edits.{document_at}
use Rattle.sk_index.specs.Indexed.{slot_values}
use Rattle.sk_nodes.specs.Left.{unread_of}
use Rattle.sk_nodes.specs.Leaves.{weighed}
use Rattle.sk_tree.specs.Opened.{score_of}
use Rattle.sk_nodes.specs.RangeNode.{unweighed, range_rest}
use Rattle.sk_nodes.proofs.NodeLaws.{shape_of-Nothing}
use Rattle.sk_tree.proofs.TermLaws.{nothing_opened}
use Rattle.sk_index.proofs.NumberLemmas.{length-slot_values}
use Rattle.sk_tree.proofs.RangeOpenLaws.{crossed_scores, range_opens}
use Rattle.sk_nodes.proofs.RangeLaws.{shape_of-Range}
use Rattle.sk_tree.proofs.ranges.open_range.Goals as goal

pub returns-then-is_crossed-clause-opens : goal.returns-then-is_crossed-clause-opens
returns-then-is_crossed-clause-opens g c scheme factor =
    nothing_opened c.args.index.now c.ended.result _ (score_of (Query.range c.args.slot (limit_of c.args.lo.now) (limit_of c.args.hi.now)) scheme factor) _ c.ended.ensures shape_of-Nothing
    (λ id. crossed_scores (limit_of c.args.lo.now) (limit_of c.args.hi.now) c.args.slot scheme factor (document_at id c.args.index.now.live.documents) (sym c.is_crossed.ensures ∙ c.if-is_crossed.true))

pub returns-clause-opens : goal.returns-clause-opens
returns-clause-opens g c scheme factor =
    let i = c.args.index.now in
    let r = c.open-range.result in
    range_opens i c.open-range.new.top r _ (limit_of c.args.lo.now) (limit_of c.args.hi.now) c.args.slot scheme factor (shape_of-Range r)
    c.open-range.ensures.yields.top c.open-range.ensures.yields.sound c.open-range.ensures.yields.ceiling c.requires.can.documents
    (λ id. subst (λ (hi : Option (List ℕ)). range_rest i r id ≡ weighed 0 Scheme.Bool (unweighed (in_range (end_of (limit_of c.args.lo.now)) hi (slot_values c.args.slot i.live.documents))) id) c.in_ok-hi.ensures
    (subst (λ (lo : Option (List ℕ)). range_rest i r id ≡ weighed 0 Scheme.Bool (unweighed (in_range lo c.in_ok-hi.hi (slot_values c.args.slot i.live.documents))) id) c.in_ok-lo.ensures (c.open-range.ensures.yields.gives id)))

pub returns-clause-pays : goal.returns-clause-pays
returns-clause-pays g c =
    let i = c.args.index.now in
    let long : length (flat c.values.result.now) ≡ slot_length_of c.args.slot i.live.documents = ap length c.values.ensures.entries ∙ length-slot_values c.args.slot i.live.documents in
    let listed = length-slot_values c.args.slot i.live.documents in
    let left = ap (unread_of i) (shape_of-Range c.open-range.result) in
    record {
      paid = omega (arith, long, listed, left, c.length.ensures.value, c.in_ok-raise.ensures.ok, c.open-range.ensures.spends.paid);
      within = omega (arith, long, c.length.ensures.value, c.in_ok-raise.ensures.ok);
      room = omega (arith, long, listed, c.length.ensures.value, c.in_ok-raise.ensures.ok, c.open-range.ensures.spends.paid, c.requires.can.room);
    }
