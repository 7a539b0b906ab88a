-- How far the lists have come, and where they stand at the end.
use Rattle.std.proofs.Common.{◌≤◌, ◌<◌, ◌+◌, ◌^◌, ◌∙◌, ℕ, List, Option, length, unwrap_or, sym, subst, ap, rules, arith}
use Rattle.std.proofs.lemmas.List.{places, with_items_is}
use Rattle.sk_buckets.specs.declared.mark.Mark.{Mark}
use Rattle.sk_nodes.specs.declared.wdfs.Wdfs.{Wdfs}
use Rattle.sk_nodes.specs.Shapes.{or_many, side, leaf, merged, gathered}
use Rattle.sk_nodes.specs.Left.{rest, unread_in, greatest_sum}
use Rattle.sk_nodes.specs.Merge.{ids_left}
use Rattle.sk_nodes.specs.Moved.{WasSought, Accounts}
use Rattle.sk_nodes.specs.Leaves.{leaf_rest}
use Rattle.sk_nodes.proofs.MergeLaws.{MergeSoFar, has_leaf, merge_begun, merge_past, merge_on, merge_moved_one, merge_reached, merge_sought, merge_accounts}
use Rattle.sk_nodes.proofs.merge.seek_merge.Goals as goal

pub lists-init : goal.lists-init
lists-init g c = record {
  far = merge_begun c.args.index.now c.args.target c.args.need c.args.spent.now (gathered c.args.merge.now) c.requires.sides;
  within = c.requires.target;
  block = c.block_max-block.ensures.bound;
  last = c.block_max-block.ensures.small;
  fits = c.block_max-block.ensures.fits;
  spends = record { paid = omega arith; counted = omega arith; later = omega arith };
}

pub move_on-requires-clause-leaf : goal.move_on-requires-clause-leaf
move_on-requires-clause-leaf g c =
    let small : c.first_top-which.result.0.head < 2 ^ 32 = omega (arith, c.if-first-from.true, c.lists.invariant.within) in
    let there =
    has_leaf c.args.index.now c.lists.merge.queue c.lists.merge.leaves.items c.first_top-which.result.1 c.lists.invariant.far.sides.sides.others (c.first_top-which.ensures.there small)
    (λ d. let at = c.first_top-which.ensures.which small d in omega (arith, at, small)) in
    omega (arith, there, ap (λ (ls : List Wdfs). length ls) c.deref_mut.ensures.value)

pub lists-preserved-then-first-from : goal.lists-preserved-then-first-from
lists-preserved-then-first-from g c =
    let i = c.args.index.now in
    let at = c.lists.merge in
    let is = with_items_is at.leaves c.move_on.new.leaves (search (rules, places)) in
    let was = ap (λ (ms : List Mark). unread_in i (merged ms c.deref_mut.result.now)) c.first_top-which.ensures.same ∙ ap (λ (ls : List Wdfs). unread_in i (merged at.queue ls)) c.deref_mut.ensures.value in
    let left = ap (λ (ls : List Wdfs). unread_in i (merged c.move_on.new.queue ls)) is in
    record {
      far =
          merge_moved_one i c.args.target c.args.need c.args.spent.now (gathered c.args.merge.now) c.lists.from c.lists.spent c.move_on.new.spent at.longest_top at.longest at.queue c.first_top-which.new.queue c.move_on.new.queue
          at.leaves.items c.deref_mut.result.now c.move_on.new.leaves _ c.first_top-which.ensures.same c.deref_mut.ensures.value is c.lists.invariant.far c.move_on.ensures.moved c.move_on.ensures.same;
      within = c.lists.invariant.within;
      block = c.lists.invariant.block;
      last = c.lists.invariant.last;
      fits = c.lists.invariant.fits;
      spends = record {
        paid = omega (arith, was, left, c.move_on.ensures.spends.paid, c.lists.invariant.spends.paid);
        counted = omega (arith, c.move_on.ensures.spends.counted, c.lists.invariant.spends.counted);
        later = omega (arith, c.move_on.ensures.spends.later, c.lists.invariant.spends.later);
      };
    }

pub lists-preserved-then-from-enough : goal.lists-preserved-then-from-enough
lists-preserved-then-from-enough g c =
    let i = c.args.index.now in
    let at = c.lists.merge in
    let others = merged at.queue at.leaves.items in
    let within = c.block_from-block.ensures.bound c.lists.invariant.block in
    let head = (c.first_top-which.ensures.top i at.leaves.items c.lists.invariant.far.sides.sides.others).head in
    record {
      far =
          subst (λ (ms : List Mark). MergeSoFar i c.args.target c.args.need c.first_enough-enough.result c.args.spent.now c.lists.spent (gathered c.args.merge.now) (side at.longest_top (leaf at.longest) (merged ms at.leaves.items))) (sym c.first_top-which.ensures.same)
          (merge_past i c.args.target c.args.need c.args.spent.now (gathered c.args.merge.now) c.lists.from c.first_enough-enough.result c.lists.spent (gathered at) c.lists.invariant.far c.first_enough-enough.ensures.later c.first_enough-enough.ensures.unneeded
          (c.first_enough-enough.ensures.light (leaf_rest i at.longest) (rest i (or_many others)) within head));
      within = c.first_enough-enough.ensures.within;
      block = λ id up le. within id (omega (arith, up, c.if-from-enough.true)) le;
      last = c.block_from-block.ensures.small;
      fits = c.block_from-block.ensures.fits;
      spends = record {
        paid = omega (arith, ap (λ (ms : List Mark). unread_in i (merged ms at.leaves.items)) c.first_top-which.ensures.same, c.lists.invariant.spends.paid);
        counted = c.lists.invariant.spends.counted;
        later = c.lists.invariant.spends.later;
      };
    }

pub returns-then-need-met-clause-sought : goal.returns-then-need-met-clause-sought
returns-then-need-met-clause-sought g c =
    let i = c.args.index.now in
    let at = c.lists.merge in
    let others = merged at.queue at.leaves.items in
    let sound = c.lists.invariant.far.sides.sides in
    let far =
    merge_reached i c.args.target c.args.need c.args.spent.now (gathered c.args.merge.now) c.lists.from c.lists.spent c.reach_longest.new.spent at.longest_top c.reach_longest.new.longest_top at.longest c.reach_longest.new.longest others
    c.lists.invariant.far (c.reach_longest.ensures.moved others sound.others) c.reach_longest.ensures.same in
    subst (λ (ms : List Mark). WasSought i c.args.target c.args.need (greatest_sum (gathered c.args.merge.now)) c.args.spent.now c.reach_longest.new.spent c.args.steps.now c.reach_longest.new.steps (or_many (gathered c.args.merge.now)) (or_many (side c.reach_longest.new.longest_top (leaf c.reach_longest.new.longest) (merged ms at.leaves.items))) c.meet-met.result) (sym c.first_top-which.ensures.same)
    (merge_sought i c.args.target c.args.need c.args.spent.now (gathered c.args.merge.now) c.lists.from c.reach_longest.new.spent c.args.steps.now c.reach_longest.new.steps (side c.reach_longest.new.longest_top (leaf c.reach_longest.new.longest) others) c.meet-met.result far
    (c.meet-met.ensures.top i c.reach_longest.new.longest others far.sides.sides (c.first_top-which.ensures.top i at.leaves.items sound.others))
    (omega (arith, c.meet-met.ensures.head, c.reach_longest.ensures.reached, c.if-first-from.false))
    (record {
      paid = omega (arith, c.reach_longest.ensures.spends.paid, c.lists.invariant.spends.paid);
      counted = omega (arith, c.reach_longest.ensures.spends.counted, c.lists.invariant.spends.counted);
      later = omega (arith, c.reach_longest.ensures.spends.later, c.lists.invariant.spends.later);
    }))

pub returns-then-need-met-clause-accounts : goal.returns-then-need-met-clause-accounts
returns-then-need-met-clause-accounts g c =
    let i = c.args.index.now in
    let at = c.lists.merge in
    let others = merged at.queue at.leaves.items in
    subst (λ (ms : List Mark). Accounts i c.args.target c.args.need c.args.spent.now c.reach_longest.new.spent (or_many (gathered c.args.merge.now)) (or_many (side c.reach_longest.new.longest_top (leaf c.reach_longest.new.longest) (merged ms at.leaves.items)))) (sym c.first_top-which.ensures.same)
    (merge_accounts i c.args.target c.args.need c.args.spent.now (gathered c.args.merge.now) c.lists.from c.reach_longest.new.spent (side c.reach_longest.new.longest_top (leaf c.reach_longest.new.longest) others) (omega (arith, c.lists.invariant.within))
    (merge_reached i c.args.target c.args.need c.args.spent.now (gathered c.args.merge.now) c.lists.from c.lists.spent c.reach_longest.new.spent at.longest_top c.reach_longest.new.longest_top at.longest c.reach_longest.new.longest others
    c.lists.invariant.far (c.reach_longest.ensures.moved others c.lists.invariant.far.sides.sides.others) c.reach_longest.ensures.same))

pub lists-smaller : goal.lists-smaller
lists-smaller g c =
    omega (arith, ap ids_left c.first_top-which.ensures.same, c.meet-met.ensures.head, c.reach_longest.ensures.reached, c.if-first-from.false, c.if-met.false, c.lists.invariant.within)

pub lists-preserved : goal.lists-preserved
lists-preserved g c =
    let i = c.args.index.now in
    let at = c.lists.merge in
    let others = merged at.queue at.leaves.items in
    let sound = c.lists.invariant.far.sides.sides in
    let le : c.lists.from ≤ c.meet-met.result.head = omega (arith, c.meet-met.ensures.head, c.reach_longest.ensures.reached, c.if-first-from.false) in
    let far =
    merge_reached i c.args.target c.args.need c.args.spent.now (gathered c.args.merge.now) c.lists.from c.lists.spent c.reach_longest.new.spent at.longest_top c.reach_longest.new.longest_top at.longest c.reach_longest.new.longest others
    c.lists.invariant.far (c.reach_longest.ensures.moved others sound.others) c.reach_longest.ensures.same in
    record {
      far =
          subst (λ (ms : List Mark). MergeSoFar i c.args.target c.args.need (c.meet-met.result.head + 1) c.args.spent.now c.reach_longest.new.spent (gathered c.args.merge.now) (side c.reach_longest.new.longest_top (leaf c.reach_longest.new.longest) (merged ms at.leaves.items))) (sym c.first_top-which.ensures.same)
          (merge_on i c.args.target c.args.need c.args.spent.now (gathered c.args.merge.now) c.lists.from c.reach_longest.new.spent (side c.reach_longest.new.longest_top (leaf c.reach_longest.new.longest) others) c.meet-met.result far
          (c.meet-met.ensures.top i c.reach_longest.new.longest others far.sides.sides (c.first_top-which.ensures.top i at.leaves.items sound.others))
          le (omega (arith, c.if-met.false)) (omega (arith, c.if-need-met.false)));
      within = omega (arith, c.if-met.false);
      block = λ id up le2.
          let same = c.reach_longest.ensures.same id (omega (arith, up, le)) in
          let bound = c.block_from-block.ensures.bound c.lists.invariant.block id (omega (arith, up, le)) le2 in
          subst (λ (o : Option ℕ). unwrap_or o 0 ≤ c.block_from-block.result.greatest) (sym same) bound;
      last = c.block_from-block.ensures.small;
      fits = c.block_from-block.ensures.fits;
      spends = record {
        paid = omega (arith, ap (λ (ms : List Mark). unread_in i (merged ms at.leaves.items)) c.first_top-which.ensures.same, c.reach_longest.ensures.spends.paid, c.lists.invariant.spends.paid);
        counted = omega (arith, c.reach_longest.ensures.spends.counted, c.lists.invariant.spends.counted);
        later = omega (arith, c.reach_longest.ensures.spends.later, c.lists.invariant.spends.later);
      };
    }
