use Rattle.std.proofs.Common.{◌∙◌, ◌+◌, None, Some, refl, sym, ap, subst, arith}
use Rattle.sk_sorted.specs.Joined.{joined_id}
use Rattle.sk_shards.specs.Forests.{IsFirstOf}
use Rattle.sk_shards.proofs.FirstLemmas.{over_long, over_few, over_head, over_fits, over_end, first_skip, first_taken, is_earlier, first_stays}
use Rattle.sk_shards.proofs.forest.first_of.Goals as goal
use Rattle.sk_shards.proofs.forest.first_of.Goals.{then-is_before, else-is_before}

pub overflow_cast-parts : goal.overflow_cast-parts
overflow_cast-parts c =
    let few = over_few c.requires.0 c.args.trees.now c.requires.1 in
    omega (arith, few)

pub overflow_cast-part : goal.overflow_cast-part
overflow_cast-part c =
    let few = over_few c.requires.0 c.args.trees.now c.requires.1 in
    omega (arith, few)

pub trees-preserved-in_default : goal.trees-preserved-in_default
trees-preserved-in_default c indexes over =
    first_skip indexes c.args.trees.now c.trees.i c.trees.first (sym (over_head indexes c.args.trees.now over c.trees.i c.index-trees-i.result (omega arith) c.index-trees-i.is None c.in_default.ensures)) (c.trees.invariant indexes over)

pub joined_id-id-requires-clause-own : goal.joined_id-id-requires-clause-own
joined_id-id-requires-clause-own c =
    (over_fits c.requires.0 c.args.trees.now c.requires.1 c.trees.i c.in-Some.own (omega arith)
    (sym (over_head c.requires.0 c.args.trees.now c.requires.1 c.trees.i c.index-trees-i.result (omega arith) c.index-trees-i.is (Some c.in-Some.own) c.in-Some.ensures))).0

pub joined_id-id-requires-clause-fits : goal.joined_id-id-requires-clause-fits
joined_id-id-requires-clause-fits c =
    (over_fits c.requires.0 c.args.trees.now c.requires.1 c.trees.i c.in-Some.own (omega arith)
    (sym (over_head c.requires.0 c.args.trees.now c.requires.1 c.trees.i c.index-trees-i.result (omega arith) c.index-trees-i.is (Some c.in-Some.own) c.in-Some.ensures))).1

pub trees-preserved : goal.trees-preserved
trees-preserved c indexes over =
    let trees = c.args.trees.now in
    let here = sym (over_head indexes trees over c.trees.i c.index-trees-i.result (omega arith) c.index-trees-i.is (Some c.in-Some.own) c.in-Some.ensures) in
    let long = over_long indexes trees over in
    let id = c.joined_id-id.ensures ∙ ap (λ n. joined_id n c.trees.i c.in-Some.own) long in
    let begun = (over_fits indexes trees over c.trees.i c.in-Some.own (omega arith) here).0 in
    elim c.if-is_before.branch [
      | then-is_before w ↦ subst (λ f. IsFirstOf indexes trees (c.trees.i + 1) f) (sym w.first-is)
          (first_taken indexes trees c.trees.i c.in-Some.own c.trees.first (record { part = c.trees.i; own = c.in-Some.own; id = c.joined_id-id.result }) refl refl id begun here
          (is_earlier indexes trees c.joined_id-id.result c.trees.first c.is_before.result c.is_before.ensures w.if-is_before.true) (c.trees.invariant indexes over))
      | else-is_before w ↦ subst (λ f. IsFirstOf indexes trees (c.trees.i + 1) f) (sym w.first-is)
          (first_stays indexes trees c.trees.i c.in-Some.own c.joined_id-id.result c.trees.first c.is_before.result c.is_before.ensures w.if-is_before.false id here (c.trees.invariant indexes over))
    ]

pub returns : goal.returns
returns c indexes over =
    over_end indexes c.args.trees.now over c.trees.first
    (subst (λ k. IsFirstOf indexes c.args.trees.now k c.trees.first) (let long = over_long indexes c.args.trees.now over in omega (arith, long)) (c.trees.invariant indexes over))
