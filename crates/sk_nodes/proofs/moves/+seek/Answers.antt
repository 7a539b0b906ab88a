-- Two sides, how far they have come and where they meet.
use Rattle.std.proofs.Common.{sym, subst, ap, ◌∙◌, arith, rules, None}
use Rattle.std.proofs.lemmas.List.{places}
use Rattle.sk_model.specs.Covers.{Covers}
use Rattle.sk_nodes.specs.declared.top.Top.{Top}
use Rattle.sk_nodes.specs.Shapes.{Shape, range, or_many, gathered, shape_of, size_of, sides_on}
use Rattle.sk_nodes.specs.Left.{rest, from_on, unread_of}
use Rattle.sk_nodes.specs.Sound.{IsTop, Sound}
use Rattle.sk_nodes.proofs.LeafLaws.{AtMost-covers}
use Rattle.sk_nodes.proofs.NodeLaws.{sound_fits, greatest_within, covers_more, capped_top, shape_of-Nothing, shape_of-Leaf, shape_of-Pair, leaf_shape, shape_of-Positional, shape_of-Synonym, weight_le, head_reached, sides_begun, xor_many_written, or_many_written, shape_of-Merge}
use Rattle.sk_nodes.proofs.ManyLaws.{weights_fit, xor_begun, xor_covers, xor_more, xor_top, some_sizes}
use Rattle.sk_nodes.proofs.ProximityLaws.{test_begun}
use Rattle.sk_nodes.specs.Moved.{Accounts}
use Rattle.sk_nodes.proofs.MoveLaws.{reach_same, reach_gone, reach_leaf, reach_moved, accounts_begun}
use Rattle.sk_nodes.proofs.FadingLaws.{fades_begun}
use Rattle.sk_nodes.proofs.SkipLaws.{sides_skipped, accounts_skipped, fades_skipped}
use Rattle.sk_nodes.proofs.RangeLaws.{shape_of-Range, range_shape}
use Rattle.sk_nodes.proofs.ListLaws.{weigh_more}
use Rattle.sk_nodes.proofs.SpendLaws.{spends_none, spends_then, spends_first, spends_second}
use Rattle.sk_nodes.proofs.SumLaws.{sums_none, sums_light, sums_gone, sums_covers, sums_accounts}
use Rattle.sk_nodes.proofs.OrManyLaws.{none_head, or_accounts, size_some, or_top, or_covers, led_none, weighed_light, or_begun}
use Rattle.sk_nodes.proofs.SeekLaws.{pair_read, xor_many_read, or_many_read, merge_read, positional_read, synonym_read, sought_by, account_by, account_of_or, account_of_sums, account_of_xor, account_of_test, pair_ended, pair_ended_accounts, pair_meets, pair_meets_accounts, pair_goes, pair_goes_accounts, pair_goes_fades, test_all, test_ended, test_spends, test_passed, test_gone, test_goes, has_first, first_moved, first_weighed, halves_sound, halves_sizes, halves_unread, halves_moved, halves_sought, halves_reached, halves_spend, some_led, some_go, some_found, some_found_accounts, some_ended, some_ended_accounts}
use Rattle.sk_nodes.proofs.moves.+seek.Goals as goal

-- ---- a node that is reached

pub reach-returns-then-target-top-clause-accounts : goal.reach-returns-then-target-top-clause-accounts
reach-returns-then-target-top-clause-accounts g t c =
    reach_same c.args.index.now c.args.target c.args.need c.args.spent.now (shape_of c.args.node.now) c.args.top.now c.if-target-top.true

pub reach-returns-then-top-need-clause-accounts : goal.reach-returns-then-top-need-clause-accounts
reach-returns-then-top-need-clause-accounts g t c =
    reach_gone c.args.index.now c.args.target c.args.need c.args.spent.now (shape_of c.args.node.now) _ c.args.top.now _ (ap shape_of c.give_up.ensures.node ∙ shape_of-Nothing) (ap (λ (u : Top). u.head) c.give_up.ensures.top)
    (omega (arith, c.if-target-top.false)) c.requires.target

pub reach-returns-in-Leaf-clause-accounts : goal.reach-returns-in-Leaf-clause-accounts
reach-returns-in-Leaf-clause-accounts g t c =
    reach_leaf c.args.index.now c.args.target c.args.need c.args.spent.now c.advance.new.spent _ c.advance.new.self _ _ c.args.top.now c.advance.new.top (leaf_shape c.args.node.now c.in-Leaf.leaf _ c.in-Leaf.is c.in-Leaf.leaf-is) (search (rules, shape_of-Leaf))
    c.requires.top (omega (arith, c.if-target-top.false, c.requires.target)) c.if-top-need.false c.requires.target c.advance.ensures.at c.advance.ensures.walks c.advance.ensures.moves c.advance.ensures.spends.paid c.advance.ensures.own

pub reach_inner-settle-requires : goal.reach_inner-settle-requires
reach_inner-settle-requires g t c = sound_fits c.args.index.now (shape_of c.args.node.now) c.requires.sound

pub reach_inner-returns-clause-sought : goal.reach_inner-returns-clause-sought
reach_inner-returns-clause-sought g t c =
    let covers =
    let i = c.args.index.now in
    covers_more c.args.target c.args.need (rest i (shape_of c.args.node.now)) (rest i (shape_of c.settle.new.node)) (rest i (shape_of c.seek.new.node)) (c.settle.ensures.decays c.args.index.now c.requires.sound).covers c.seek.ensures.sought.lands.covers in
    record {
      lands = record {
        top =
            let i = c.args.index.now in
            subst (λ n. IsTop i (record c.seek.new.top { greatest = n }) (shape_of c.seek.new.node)) (sym c.min-top.ensures)
            (capped_top i c.seek.new.top (shape_of c.seek.new.node) c.args.top.now.greatest c.seek.ensures.sought.lands.top
            (AtMost-covers c.args.target c.args.need c.args.top.now.greatest (rest i (shape_of c.args.node.now)) (rest i (shape_of c.seek.new.node)) c.requires.top.bound covers));
        sound = c.seek.ensures.sought.lands.sound;
        covers = covers;
        reached = omega arith;
      };
      falls = omega (arith, c.min-top.ensures);
      smaller = omega (arith, (c.settle.ensures.decays c.args.index.now c.requires.sound).smaller, c.seek.ensures.sought.smaller);
      spends = record { paid = omega (arith, (c.settle.ensures.decays c.args.index.now c.requires.sound).unread, c.seek.ensures.sought.spends.paid); counted = c.seek.ensures.sought.spends.counted; later = c.seek.ensures.sought.spends.later };
    }

pub reach_inner-returns-clause-accounts : goal.reach_inner-returns-clause-accounts
reach_inner-returns-clause-accounts g t c =
    reach_moved c.args.index.now c.args.target c.args.need c.args.spent.now c.seek.new.spent _ (shape_of c.args.node.now) (shape_of c.settle.new.node) (shape_of c.seek.new.node) c.args.top.now c.seek.new.top c.requires.top c.requires.sound
    (omega (arith, c.requires.below, c.requires.target)) c.requires.enough c.settle.ensures.stands (c.settle.ensures.decays c.args.index.now c.requires.sound).covers c.seek.ensures.accounts

-- ---- a node that is sought

pub seek-returns-in-Range-clause-sought : goal.seek-returns-in-Range-clause-sought
seek-returns-in-Range-clause-sought g t c =
    let lands = c.seek-in-Range.ensures.lands c.args.need in
    sought_by {t = range c.seek-in-Range.new.self} (range_shape c.args.node.now c.in-Range.range _ c.in-Range.is c.in-Range.range-is) (search (rules, shape_of-Range))
    (record { lands = lands; falls = greatest_within c.args.index.now _ _ lands.top; smaller = omega arith; spends = c.seek-in-Range.ensures.spends })

pub seek-returns-in-Pair-clause-sought : goal.seek-returns-in-Pair-clause-sought
seek-returns-in-Pair-clause-sought g t c =
    sought_by (pair_read c.in-Pair.is c.in-Pair.form-is c.in-Pair.ta-is c.in-Pair.tb-is c.in-Pair.a-is c.deref_mut.ensures.value c.in-Pair.b-is c.deref_mut-in-Pair.ensures.value)
    (shape_of-Pair _ _ _ _ _) c.seek_sides.ensures.sought

pub seek-returns-in-XorMany-clause-sought : goal.seek-returns-in-XorMany-clause-sought
seek-returns-in-XorMany-clause-sought g t c =
    sought_by (xor_many_read c.in-XorMany.is c.in-XorMany.tops-is c.deref_mut-in-XorMany.ensures.value c.in-XorMany.nodes-is c.deref_mut-in-XorMany-2.ensures.value)
    (xor_many_written _ _ c.seek_xor_many.new.tops c.seek_xor_many.new.nodes (search (rules, places)) (search (rules, places))) (c.seek_xor_many.ensures c.args.need)

pub seek-returns-in-OrMany-clause-sought : goal.seek-returns-in-OrMany-clause-sought
seek-returns-in-OrMany-clause-sought g t c =
    sought_by (or_many_read c.in-OrMany.is c.in-OrMany.tops-is c.deref_mut-in-OrMany.ensures.value c.in-OrMany.nodes-is c.deref_mut-in-OrMany-2.ensures.value)
    (or_many_written _ _ c.seek_or_many.new.tops c.seek_or_many.new.nodes (search (rules, places)) (search (rules, places))) c.seek_or_many.ensures.sought

pub seek-returns-in-Merge-clause-sought : goal.seek-returns-in-Merge-clause-sought
seek-returns-in-Merge-clause-sought g t c =
    sought_by {t = or_many (gathered c.seek_merge.new.merge)} (merge_read c.in-Merge.is c.in-Merge.merge-is c.deref_mut-in-Merge.ensures.value)
    (search (rules, shape_of-Merge)) c.seek_merge.ensures.sought

pub seek-returns-in-Positional-clause-sought : goal.seek-returns-in-Positional-clause-sought
seek-returns-in-Positional-clause-sought g t c =
    sought_by (positional_read c.in-Positional.is c.in-Positional.test-is c.in-Positional.below-is c.in-Positional.node-is c.deref_mut-in-Positional.ensures.value)
    (shape_of-Positional _ _ _) c.seek_positional.ensures

pub seek-returns-in-Synonym-clause-sought : goal.seek-returns-in-Synonym-clause-sought
seek-returns-in-Synonym-clause-sought g t c =
    sought_by (synonym_read c.in-Synonym.is c.in-Synonym.scheme-is c.in-Synonym.factor-is c.in-Synonym.below-is c.in-Synonym.node-is c.deref_mut-in-Synonym.ensures.value)
    (shape_of-Synonym _ _ _ _) c.seek_synonym.ensures.sought

pub seek-returns-in-Pair-clause-accounts : goal.seek-returns-in-Pair-clause-accounts
seek-returns-in-Pair-clause-accounts g t c =
    account_by (pair_read c.in-Pair.is c.in-Pair.form-is c.in-Pair.ta-is c.in-Pair.tb-is c.in-Pair.a-is c.deref_mut.ensures.value c.in-Pair.b-is c.deref_mut-in-Pair.ensures.value)
    (shape_of-Pair _ _ _ _ _) c.seek_sides.ensures.accounts

pub seek-returns-in-XorMany-clause-accounts : goal.seek-returns-in-XorMany-clause-accounts
seek-returns-in-XorMany-clause-accounts g t c =
    account_by (xor_many_read c.in-XorMany.is c.in-XorMany.tops-is c.deref_mut-in-XorMany.ensures.value c.in-XorMany.nodes-is c.deref_mut-in-XorMany-2.ensures.value)
    (xor_many_written _ _ c.seek_xor_many.new.tops c.seek_xor_many.new.nodes (search (rules, places)) (search (rules, places))) account_of_xor

pub seek-returns-in-OrMany-clause-accounts : goal.seek-returns-in-OrMany-clause-accounts
seek-returns-in-OrMany-clause-accounts g t c =
    account_by (or_many_read c.in-OrMany.is c.in-OrMany.tops-is c.deref_mut-in-OrMany.ensures.value c.in-OrMany.nodes-is c.deref_mut-in-OrMany-2.ensures.value)
    (or_many_written _ _ c.seek_or_many.new.tops c.seek_or_many.new.nodes (search (rules, places)) (search (rules, places))) (account_of_or c.seek_or_many.ensures.accounts)

pub seek-returns-in-Merge-clause-accounts : goal.seek-returns-in-Merge-clause-accounts
seek-returns-in-Merge-clause-accounts g t c =
    account_by {t = or_many (gathered c.seek_merge.new.merge)} (merge_read c.in-Merge.is c.in-Merge.merge-is c.deref_mut-in-Merge.ensures.value)
    (search (rules, shape_of-Merge)) (account_of_or c.seek_merge.ensures.accounts)

pub seek-returns-in-Positional-clause-accounts : goal.seek-returns-in-Positional-clause-accounts
seek-returns-in-Positional-clause-accounts g t c =
    account_by (positional_read c.in-Positional.is c.in-Positional.test-is c.in-Positional.below-is c.in-Positional.node-is c.deref_mut-in-Positional.ensures.value)
    (shape_of-Positional _ _ _) account_of_test

pub seek-returns-in-Synonym-clause-accounts : goal.seek-returns-in-Synonym-clause-accounts
seek-returns-in-Synonym-clause-accounts g t c =
    account_by (synonym_read c.in-Synonym.is c.in-Synonym.scheme-is c.in-Synonym.factor-is c.in-Synonym.below-is c.in-Synonym.node-is c.deref_mut-in-Synonym.ensures.value)
    (shape_of-Synonym _ _ _ _) (account_of_sums c.seek_synonym.ensures.accounts)

-- ---- two sides

pub seek_pair-sides-init : goal.seek_pair-sides-init
seek_pair-sides-init g t c =
    let i = c.args.index.now in
    let ta = c.args.ta.now in
    let a = shape_of c.args.a.now in
    let tb = c.args.tb.now in
    let b = shape_of c.args.b.now in
    let spent = c.args.spent.now in
    let skips = c.skip-from.ensures in
    record {
      far = sides_skipped i c.args.form c.args.target c.args.need c.args.target c.skip-from.result ta a tb b ta a tb b skips (sides_begun i c.args.form c.args.target c.args.need ta a tb b c.requires.pair c.requires.target);
      accounts = accounts_skipped i c.args.form c.args.target c.args.need c.args.target c.skip-from.result ta a tb b ta a tb b skips spent spent (accounts_begun i c.args.form c.args.target c.args.need spent ta a tb b);
      fades = fades_skipped i c.args.form c.args.target c.args.need c.args.target c.skip-from.result ta a tb b ta a tb b skips spent spent (fades_begun i c.args.form c.args.target spent ta a tb b);
      spends = spends_none _ _ _;
    }

pub seek_pair-meeting_of-requires-clause-fits : goal.seek_pair-meeting_of-requires-clause-fits
seek_pair-meeting_of-requires-clause-fits g t c =
    omega (
      arith,
      weight_le c.args.index.now c.reach.new.top (shape_of c.reach.new.node) c.reach.ensures.sought.lands.top,
      weight_le c.args.index.now c.reach-in-sides.new.top (shape_of c.reach-in-sides.new.node) c.reach-in-sides.ensures.sought.lands.top,
      c.reach.ensures.sought.falls,
      c.reach-in-sides.ensures.sought.falls,
      c.sides.invariant.far.pair.fits,
    )

pub seek_pair-skip-from-requires-in-Behind-clause-from : goal.seek_pair-skip-from-requires-in-Behind-clause-from
seek_pair-skip-from-requires-in-Behind-clause-from g t c =
    (c.in-Behind.ensures.meets (rest c.args.index.now (shape_of c.reach.new.node)) (rest c.args.index.now (shape_of c.reach-in-sides.new.node)) c.reach.ensures.sought.lands.top.head c.reach-in-sides.ensures.sought.lands.top.head).within

pub seek_pair-sides-smaller : goal.seek_pair-sides-smaller
seek_pair-sides-smaller g t c =
    let on = c.in-Behind.ensures.meets (rest c.args.index.now (shape_of c.reach.new.node)) (rest c.args.index.now (shape_of c.reach-in-sides.new.node)) c.reach.ensures.sought.lands.top.head c.reach-in-sides.ensures.sought.lands.top.head in
    omega (arith, on.further, on.within, c.reach.ensures.sought.lands.reached, c.skip-from-in-Behind.ensures.later, c.skip-from-in-Behind.ensures.within)

pub seek_pair-sides-preserved : goal.seek_pair-sides-preserved
seek_pair-sides-preserved g t c =
    let i = c.args.index.now in
    let on = c.in-Behind.ensures.meets (rest i (shape_of c.reach.new.node)) (rest i (shape_of c.reach-in-sides.new.node)) c.reach.ensures.sought.lands.top.head c.reach-in-sides.ensures.sought.lands.top.head in
    record {
      far = sides_skipped i c.args.form c.args.target c.args.need c.in-Behind.further c.skip-from-in-Behind.result c.args.ta.now (shape_of c.args.a.now) c.args.tb.now (shape_of c.args.b.now) c.reach.new.top (shape_of c.reach.new.node) c.reach-in-sides.new.top (shape_of c.reach-in-sides.new.node) c.skip-from-in-Behind.ensures
          (pair_goes c.sides.invariant.far c.first_need.ensures c.reach.ensures.sought c.second_target-next.ensures c.second_need.ensures c.reach-in-sides.ensures.sought on);
      accounts = accounts_skipped i c.args.form c.args.target c.args.need c.in-Behind.further c.skip-from-in-Behind.result c.args.ta.now (shape_of c.args.a.now) c.args.tb.now (shape_of c.args.b.now) c.reach.new.top (shape_of c.reach.new.node) c.reach-in-sides.new.top (shape_of c.reach-in-sides.new.node) c.skip-from-in-Behind.ensures c.args.spent.now c.reach-in-sides.new.spent
          (pair_goes_accounts c.sides.invariant.far c.first_need.ensures c.reach.ensures.sought c.second_target-next.ensures c.second_need.ensures c.reach-in-sides.ensures.sought c.if-next-ge-END.false c.sides.invariant.accounts c.sides.invariant.fades c.reach.ensures.accounts c.reach-in-sides.ensures.accounts
          c.in-Behind.further on c.in-Behind.ensures.on);
      fades = fades_skipped i c.args.form c.args.target c.args.need c.in-Behind.further c.skip-from-in-Behind.result c.args.ta.now (shape_of c.args.a.now) c.args.tb.now (shape_of c.args.b.now) c.reach.new.top (shape_of c.reach.new.node) c.reach-in-sides.new.top (shape_of c.reach-in-sides.new.node) c.skip-from-in-Behind.ensures c.args.spent.now c.reach-in-sides.new.spent
          (pair_goes_fades c.sides.invariant.far c.first_need.ensures c.reach.ensures.sought c.second_target-next.ensures c.second_need.ensures c.reach-in-sides.ensures.sought c.if-next-ge-END.false c.sides.invariant.accounts c.sides.invariant.fades c.reach.ensures.accounts c.reach-in-sides.ensures.accounts
          c.in-Behind.further c.in-Behind.ensures.on c.in-Behind.ensures.both);
      spends = spends_then c.sides.invariant.spends (spends_then (spends_first _ c.reach.ensures.sought.spends) (spends_second _ c.reach-in-sides.ensures.sought.spends));
    }

pub seek_pair-returns-then-next-ge-END-clause-sought : goal.seek_pair-returns-then-next-ge-END-clause-sought
seek_pair-returns-then-next-ge-END-clause-sought g t c =
    pair_ended c.sides.invariant.far c.first_need.ensures c.reach.ensures.sought c.sides.invariant.spends c.second_target-next.ensures c.if-next-ge-END.true c.ended.ensures c.requires.target

pub seek_pair-returns-then-next-ge-END-clause-accounts : goal.seek_pair-returns-then-next-ge-END-clause-accounts
seek_pair-returns-then-next-ge-END-clause-accounts g t c =
    pair_ended_accounts c.sides.invariant.far c.first_need.ensures c.reach.ensures.sought c.sides.invariant.accounts c.sides.invariant.fades c.reach.ensures.accounts c.second_target-next.ensures c.if-next-ge-END.true c.ended.ensures

pub seek_pair-returns-in-At-clause-sought : goal.seek_pair-returns-in-At-clause-sought
seek_pair-returns-in-At-clause-sought g t c =
    let i = c.args.index.now in
    pair_meets c.sides.invariant.far c.first_need.ensures c.reach.ensures.sought c.second_target-next.ensures c.second_need.ensures c.reach-in-sides.ensures.sought c.sides.invariant.spends
    (c.in-At.ensures.meets (rest i (shape_of c.reach.new.node)) (rest i (shape_of c.reach-in-sides.new.node)) c.reach.ensures.sought.lands.top.head c.reach-in-sides.ensures.sought.lands.top.head)
    c.greatest_at-top.ensures.there c.greatest_at-top.ensures.ended c.greatest_at-top.ensures.bound c.requires.target

pub seek_pair-returns-in-At-clause-accounts : goal.seek_pair-returns-in-At-clause-accounts
seek_pair-returns-in-At-clause-accounts g t c =
    pair_meets_accounts c.sides.invariant.far c.first_need.ensures c.reach.ensures.sought c.second_target-next.ensures c.second_need.ensures c.reach-in-sides.ensures.sought c.if-next-ge-END.false c.sides.invariant.accounts c.sides.invariant.fades c.reach.ensures.accounts c.reach-in-sides.ensures.accounts _
    c.in-At.ensures.at c.in-At.ensures.both

-- ---- the sides of an xor

pub seek_xor_many-xor_meeting-requires : goal.seek_xor_many-xor_meeting-requires
seek_xor_many-xor_meeting-requires g t c =
    omega (arith, weights_fit c.args.index.now (sides_on c.reach_all.new.tops c.reach_all.new.nodes) c.reach_all.ensures.moved.sound, c.reach_all.ensures.moved.falls, c.all.invariant.far.sides.fits)

pub seek_xor_many-returns-in-At : goal.seek_xor_many-returns-in-At
seek_xor_many-returns-in-At g t c need =
    let covers =
    xor_covers c.args.index.now c.args.target need c.all.from (sides_on c.args.tops.now c.args.nodes.now) (sides_on c.all.tops c.all.nodes) (sides_on c.reach_all.new.tops c.reach_all.new.nodes)
    c.all.invariant.far c.reach_all.ensures.sought in
    record {
      lands = record {
        top =
            let i = c.args.index.now in
            xor_top i (sides_on c.reach_all.new.tops c.reach_all.new.nodes) _ c.reach_all.ensures.moved.sound
            (c.in-At.ensures i c.all.from c.all.invariant.far.within c.reach_all.ensures.moved.sound c.reach_all.ensures.reached).0
            c.sides_greatest-top.ensures.there c.sides_greatest-top.ensures.ended;
        sound = record { sides = c.reach_all.ensures.moved.sound; fits = omega (arith, c.reach_all.ensures.moved.falls, c.all.invariant.far.sides.fits) };
        covers = covers;
        reached =
            let i = c.args.index.now in
            head_reached c.args.target need c.in-At.head c.in-At.weight _ _ covers
            (c.in-At.ensures i c.all.from c.all.invariant.far.within c.reach_all.ensures.moved.sound c.reach_all.ensures.reached).0 c.requires.target;
      };
      falls = omega (arith, c.sides_greatest-top.ensures.bound, c.reach_all.ensures.moved.falls, c.all.invariant.far.falls);
      smaller = omega (arith, c.reach_all.ensures.moved.smaller, c.all.invariant.far.smaller);
      spends = spends_then c.all.invariant.spends c.reach_all.ensures.spends;
    }

pub seek_xor_many-all-smaller : goal.seek_xor_many-all-smaller
seek_xor_many-all-smaller g t c =
    let on = c.in-Behind.ensures c.args.index.now c.all.from c.all.invariant.far.within c.reach_all.ensures.moved.sound c.reach_all.ensures.reached in
    omega (arith, on.further, on.within)

pub seek_xor_many-all-preserved : goal.seek_xor_many-all-preserved
seek_xor_many-all-preserved g t c =
    let on = c.in-Behind.ensures c.args.index.now c.all.from c.all.invariant.far.within c.reach_all.ensures.moved.sound c.reach_all.ensures.reached in
    record {
      far = xor_more c.args.index.now c.args.target c.all.from c.in-Behind.further (sides_on c.args.tops.now c.args.nodes.now) (sides_on c.all.tops c.all.nodes) (sides_on c.reach_all.new.tops c.reach_all.new.nodes)
          c.all.invariant.far c.reach_all.ensures.moved.sound c.reach_all.ensures.sought c.reach_all.ensures.moved.falls c.reach_all.ensures.moved.smaller on;
      spends = spends_then c.all.invariant.spends c.reach_all.ensures.spends;
    }

-- ---- all sides

pub reach_all-reach_all-requires : goal.reach_all-reach_all-requires
reach_all-reach_all-requires g t c κs below =
    let i = c.args.index.now in
    let sound = halves_sound _ c.args.tops.now c.args.nodes.now c.split_at_mut-front_tops.ensures.front c.split_at_mut-front_tops.ensures.back c.split_at_mut-front_nodes.ensures.front c.split_at_mut-front_nodes.ensures.back i c.requires.sound in (
      omega (arith, c.decreases, halves_sizes _ c.args.tops.now c.args.nodes.now c.split_at_mut-front_tops.ensures.front c.split_at_mut-front_tops.ensures.back c.split_at_mut-front_nodes.ensures.front c.split_at_mut-front_nodes.ensures.back, some_sizes c.split_at_mut-front_tops.result.1.now c.split_at_mut-front_nodes.result.1.now (omega (arith, c.split_at_mut-front_tops.ensures.back_len, c.if-count-le-FEW.false, c.min-count.ensures)) (omega (arith, c.split_at_mut-front_nodes.ensures.back_len, c.if-count-le-FEW.false, c.min-count.ensures))),
      (below, (sound.0, (c.requires.target, omega (arith, c.requires.room, halves_unread _ c.args.tops.now c.args.nodes.now c.split_at_mut-front_tops.ensures.front c.split_at_mut-front_tops.ensures.back c.split_at_mut-front_nodes.ensures.front c.split_at_mut-front_nodes.ensures.back i)))),
    )

pub reach_all-reach_all-requires-2 : goal.reach_all-reach_all-requires-2
reach_all-reach_all-requires-2 g t c κs below =
    let i = c.args.index.now in
    let sound = halves_sound _ c.args.tops.now c.args.nodes.now c.split_at_mut-front_tops.ensures.front c.split_at_mut-front_tops.ensures.back c.split_at_mut-front_nodes.ensures.front c.split_at_mut-front_nodes.ensures.back i c.requires.sound in (
      omega (arith, c.decreases, halves_sizes _ c.args.tops.now c.args.nodes.now c.split_at_mut-front_tops.ensures.front c.split_at_mut-front_tops.ensures.back c.split_at_mut-front_nodes.ensures.front c.split_at_mut-front_nodes.ensures.back, some_sizes c.split_at_mut-front_tops.result.0.now c.split_at_mut-front_nodes.result.0.now (omega (arith, c.split_at_mut-front_tops.ensures.front_len, c.if-count-le-FEW.false, c.min-count.ensures)) (omega (arith, c.split_at_mut-front_nodes.ensures.front_len, c.if-count-le-FEW.false, c.min-count.ensures))),
      (below, (sound.1, (c.requires.target, omega (arith, c.requires.room, halves_unread _ c.args.tops.now c.args.nodes.now c.split_at_mut-front_tops.ensures.front c.split_at_mut-front_tops.ensures.back c.split_at_mut-front_nodes.ensures.front c.split_at_mut-front_nodes.ensures.back i, c.reach_all.ensures.spends.paid)))),
    )

pub reach_all-returns-clause-moved : goal.reach_all-returns-clause-moved
reach_all-returns-clause-moved g t c =
    halves_moved _ c.args.tops.now c.args.nodes.now c.split_at_mut-front_tops.ensures.front c.split_at_mut-front_tops.ensures.back c.split_at_mut-front_nodes.ensures.front c.split_at_mut-front_nodes.ensures.back
    c.reach_all.new.tops c.reach_all-2.new.tops c.reach_all.new.nodes c.reach_all-2.new.nodes (omega (arith, c.reach_all.auto.tops, c.reach_all.auto.nodes, c.split_at_mut-front_tops.ensures.front_len, c.split_at_mut-front_nodes.ensures.front_len)) c.reach_all.ensures.moved c.reach_all-2.ensures.moved

pub reach_all-returns-clause-sought : goal.reach_all-returns-clause-sought
reach_all-returns-clause-sought g t c =
    halves_sought _ c.args.tops.now c.args.nodes.now c.split_at_mut-front_tops.ensures.front c.split_at_mut-front_tops.ensures.back c.split_at_mut-front_nodes.ensures.front c.split_at_mut-front_nodes.ensures.back
    c.reach_all.new.tops c.reach_all-2.new.tops c.reach_all.new.nodes c.reach_all-2.new.nodes (omega (arith, c.reach_all.auto.tops, c.reach_all.auto.nodes, c.split_at_mut-front_tops.ensures.front_len, c.split_at_mut-front_nodes.ensures.front_len)) c.reach_all.ensures.moved c.reach_all-2.ensures.moved c.reach_all.ensures.sought c.reach_all-2.ensures.sought

pub reach_all-returns-clause-reached : goal.reach_all-returns-clause-reached
reach_all-returns-clause-reached g t c =
    halves_reached _ c.args.tops.now c.args.nodes.now c.split_at_mut-front_tops.ensures.front c.split_at_mut-front_tops.ensures.back c.split_at_mut-front_nodes.ensures.front c.split_at_mut-front_nodes.ensures.back
    c.reach_all.new.tops c.reach_all-2.new.tops c.reach_all.new.nodes c.reach_all-2.new.nodes (omega (arith, c.reach_all.auto.tops, c.reach_all.auto.nodes, c.split_at_mut-front_tops.ensures.front_len, c.split_at_mut-front_nodes.ensures.front_len)) c.reach_all.ensures.moved c.reach_all-2.ensures.moved c.reach_all.ensures.reached c.reach_all-2.ensures.reached

pub reach_all-returns-clause-spends : goal.reach_all-returns-clause-spends
reach_all-returns-clause-spends g t c =
    halves_spend _ c.args.tops.now c.args.nodes.now c.split_at_mut-front_tops.ensures.front c.split_at_mut-front_tops.ensures.back c.split_at_mut-front_nodes.ensures.front c.split_at_mut-front_nodes.ensures.back
    c.reach_all.new.tops c.reach_all-2.new.tops c.reach_all.new.nodes c.reach_all-2.new.nodes (omega (arith, c.reach_all.auto.tops, c.reach_all.auto.nodes, c.split_at_mut-front_tops.ensures.front_len, c.split_at_mut-front_nodes.ensures.front_len)) c.reach_all.ensures.moved c.reach_all-2.ensures.moved c.reach_all.ensures.spends c.reach_all-2.ensures.spends

-- ---- sums of wdfs

pub seek_synonym-weigh-requires-clause-within : goal.seek_synonym-weigh-requires-clause-within
seek_synonym-weigh-requires-clause-within g t c = weight_le c.args.index.now c.reach.new.top (shape_of c.reach.new.node) c.reach.ensures.sought.lands.top

pub seek_synonym-returns-in-Some-clause-sought : goal.seek_synonym-returns-in-Some-clause-sought
seek_synonym-returns-in-Some-clause-sought g t c =
    let i = c.args.index.now in
    let sought = c.reach.ensures.sought in
    let covers =
    sums_covers c.args.scheme c.args.factor c.args.need c.in-Some.wdf c.in-Some.ensures.least i c.args.target c.args.below.now c.reach.new.top (shape_of c.args.node.now) (shape_of c.reach.new.node) c.requires.synonym
    (subst (λ n. Covers (from_on c.args.target (rest i (shape_of c.args.node.now))) (rest i (shape_of c.reach.new.node)) n) c.from.ensures sought.lands.covers) in
    let top = c.weigh.ensures.top i (shape_of c.reach.new.node) sought.lands.top in
    record {
      lands = record {
        top = top;
        sound = record { top = sought.lands.top; sound = sought.lands.sound; bounded = c.requires.synonym.bounded; small = omega (arith, sought.falls, c.requires.synonym.small) };
        covers = covers;
        reached = head_reached c.args.target c.args.need _ _ _ _ covers top.head c.requires.target;
      };
      falls = let less = weigh_more c.args.factor c.args.scheme c.reach.new.top.greatest c.args.below.now.greatest sought.falls in omega (arith, c.weigh.ensures.bound, less);
      smaller = omega (arith, sought.smaller);
      spends = sought.spends;
    }

pub seek_synonym-returns-in-Some-clause-accounts : goal.seek_synonym-returns-in-Some-clause-accounts
seek_synonym-returns-in-Some-clause-accounts g t c =
    sums_accounts c.args.scheme c.args.factor c.args.need c.in-Some.wdf c.in-Some.ensures.least c.in-Some.ensures.wdf c.in-Some.ensures.enough c.args.index.now c.args.target c.args.spent.now c.reach.new.spent c.args.below.now c.reach.new.top (shape_of c.args.node.now) (shape_of c.reach.new.node) c.requires.synonym
    (subst (λ n. Accounts c.args.index.now c.args.target n c.args.spent.now c.reach.new.spent (shape_of c.args.node.now) (shape_of c.reach.new.node)) c.from.ensures c.reach.ensures.accounts.all)

pub seek_synonym-returns-in-None-clause-sought : goal.seek_synonym-returns-in-None-clause-sought
seek_synonym-returns-in-None-clause-sought g t c =
    let i = c.args.index.now in
    let gone = ap shape_of c.give_up.ensures.node ∙ shape_of-Nothing in
    let none = sums_none i c.args.scheme c.args.factor c.give_up.new.top _ (shape_of c.give_up.new.node) c.requires.synonym.bounded gone c.give_up.ensures.top c.ended.ensures in
    record {
      lands = record {
        top = none.0;
        sound = none.1;
        covers = sums_light i c.args.scheme c.args.factor c.args.need c.in-None.ensures.least c.args.target c.args.below.now c.give_up.new.top (shape_of c.args.node.now) (shape_of c.give_up.new.node) c.requires.synonym gone;
        reached = omega (arith, ap (λ (u : Top). u.head) c.ended.ensures, c.requires.target);
      };
      falls = omega (arith, ap (λ (u : Top). u.greatest) c.ended.ensures);
      smaller = omega (arith, ap size_of gone, size_some (shape_of c.args.node.now));
      spends = record { paid = omega (arith, ap (unread_of i) gone); counted = omega arith; later = omega arith };
    }

pub seek_synonym-returns-in-None-clause-accounts : goal.seek_synonym-returns-in-None-clause-accounts
seek_synonym-returns-in-None-clause-accounts g t c =
    sums_gone c.args.index.now c.args.target c.args.need c.args.spent.now c.args.scheme c.args.factor c.args.below.now c.give_up.new.top (shape_of c.args.node.now) (shape_of c.give_up.new.node) (ap shape_of c.give_up.ensures.node ∙ shape_of-Nothing)

-- ---- a test

pub seek_positional-tests-init : goal.seek_positional-tests-init
seek_positional-tests-init g t c =
    record {
      far = test_begun c.args.index.now c.args.target c.args.need c.args.test.now c.args.below.now (shape_of c.args.node.now) c.requires.target c.requires.positional;
      spends = spends_none _ _ _;
    }

pub seek_positional-passes-requires-clause-all : goal.seek_positional-passes-requires-clause-all
seek_positional-passes-requires-clause-all g t c =
    test_all c.tests.invariant.far c.reach.ensures.sought (omega (arith, c.if-below-ge-END.false))

pub seek_positional-returns-then-below-ge-END : goal.seek_positional-returns-then-below-ge-END
seek_positional-returns-then-below-ge-END g t c =
    test_ended c.tests.invariant.far c.reach.ensures.sought c.tests.invariant.spends (omega (arith, c.if-below-ge-END.true)) c.ended.ensures c.requires.target

pub seek_positional-returns-then-passes : goal.seek_positional-returns-then-passes
seek_positional-returns-then-passes g t c =
    test_passed c.tests.invariant.far c.reach.ensures.sought c.passes.ensures.same c.passes.ensures.next (omega (arith, c.if-below-ge-END.false)) c.tests.invariant.spends c.passes.ensures.spends (c.passes.ensures.holds c.if-passes.true) c.requires.target

pub seek_positional-returns-then-from-ge-END : goal.seek_positional-returns-then-from-ge-END
seek_positional-returns-then-from-ge-END g t c =
    test_gone c.tests.invariant.far c.reach.ensures.sought c.passes.ensures.same c.passes.ensures.next (omega (arith, c.if-below-ge-END.false)) c.tests.invariant.spends c.passes.ensures.spends (c.passes.ensures.fails c.if-passes.false) (omega (arith, c.if-from-ge-END.true))
    c.give_up.ensures.top (ap shape_of c.give_up.ensures.node ∙ shape_of-Nothing) c.ended-then-from-ge-END.ensures c.requires.target

pub seek_positional-tests-preserved : goal.seek_positional-tests-preserved
seek_positional-tests-preserved g t c =
    record {
      far = test_goes c.tests.invariant.far c.reach.ensures.sought c.passes.ensures.same c.passes.ensures.next (omega (arith, c.if-below-ge-END.false)) (c.passes.ensures.fails c.if-passes.false) (omega (arith, c.if-from-ge-END.false));
      spends = test_spends c.tests.invariant.far c.reach.ensures.sought c.passes.ensures.same c.passes.ensures.next (omega (arith, c.if-below-ge-END.false)) c.tests.invariant.spends c.passes.ensures.spends;
    }

-- ---- an or of many sides

pub seek_all-first_of-first-requires : goal.seek_all-first_of-first-requires
seek_all-first_of-first-requires g t c =
    omega (arith, weights_fit c.args.index.now (sides_on c.reach_all.new.tops c.reach_all.new.nodes) c.reach_all.ensures.moved.sound, c.reach_all.ensures.moved.falls, c.requires.sides.fits)

pub seek_all-returns-clause-sought : goal.seek_all-returns-clause-sought
seek_all-returns-clause-sought g t c need =
    record {
      lands = record {
        top =
            let i = c.args.index.now in
            or_top i (sides_on c.reach_all.new.tops c.reach_all.new.nodes) _ c.reach_all.ensures.moved.sound
            (c.first_of-first.ensures.first i (λ id. None) c.reach_all.ensures.moved.sound none_head)
            c.sides_greatest-top.ensures.there c.sides_greatest-top.ensures.ended;
        sound = record { sides = c.reach_all.ensures.moved.sound; fits = omega (arith, c.reach_all.ensures.moved.falls, c.requires.sides.fits) };
        covers = or_covers c.args.index.now c.args.target need (sides_on c.args.tops.now c.args.nodes.now) (sides_on c.reach_all.new.tops c.reach_all.new.nodes) c.reach_all.ensures.sought;
        reached = c.first_of-first.ensures.reached c.args.target (omega (arith, c.requires.target)) c.reach_all.ensures.reached;
      };
      falls = omega (arith, c.sides_greatest-top.ensures.bound, c.reach_all.ensures.moved.falls);
      smaller = omega (arith, c.reach_all.ensures.moved.smaller);
      spends = c.reach_all.ensures.spends;
    }

pub seek_all-returns-clause-accounts : goal.seek_all-returns-clause-accounts
seek_all-returns-clause-accounts g t c need =
    or_accounts c.args.index.now c.args.target need c.args.spent.now c.reach_all.new.spent (sides_on c.args.tops.now c.args.nodes.now) (sides_on c.reach_all.new.tops c.reach_all.new.nodes) c.requires.target c.reach_all.ensures.moved.kept

-- ---- an or of many sides, where something is needed

pub seek_some-matches-init : goal.seek_some-matches-init
seek_some-matches-init g t c =
    record {
      far = or_begun c.args.index.now c.args.target c.args.need c.args.spent.now (sides_on c.args.tops.now c.args.nodes.now) c.requires.sides;
      within = c.requires.target;
      spends = spends_none _ _ _;
    }

pub seek_some-returns-then-head-ge-END-clause-sought : goal.seek_some-returns-then-head-ge-END-clause-sought
seek_some-returns-then-head-ge-END-clause-sought g t c =
    some_ended c.requires.needed (some_led c.requires.needed c.matches.invariant.within c.matches.invariant.far c.lead-head.ensures.led c.lead-head.ensures.moved) c.end_sides.ensures.over
    c.requires.sides.sides (omega (arith, c.if-head-ge-END.true)) c.end_sides.ensures.smaller (spends_then c.matches.invariant.spends c.lead-head.ensures.spends) c.end_sides.ensures.top c.requires.target

pub seek_some-returns-then-head-ge-END-clause-accounts : goal.seek_some-returns-then-head-ge-END-clause-accounts
seek_some-returns-then-head-ge-END-clause-accounts g t c =
    some_ended_accounts c.requires.needed (some_led c.requires.needed c.matches.invariant.within c.matches.invariant.far c.lead-head.ensures.led c.lead-head.ensures.moved) c.end_sides.ensures.over

pub seek_some-returns-then-from-ge-END-clause-sought : goal.seek_some-returns-then-from-ge-END-clause-sought
seek_some-returns-then-from-ge-END-clause-sought g t c =
    some_ended c.requires.needed (some_go c.requires.needed c.matches.invariant.within c.matches.invariant.far c.lead-head.ensures.led c.lead-head.ensures.moved (omega (arith, c.if-head-ge-END.false)) c.weigh-weight.ensures.weighed c.weigh-weight.ensures.moved (omega (arith, c.if-weight-need.false))) c.end_sides-then-from-ge-END.ensures.over
    c.requires.sides.sides (omega (arith, c.if-from-ge-END.true)) c.end_sides-then-from-ge-END.ensures.smaller (spends_then c.matches.invariant.spends (spends_then c.lead-head.ensures.spends c.weigh-weight.ensures.spends)) c.end_sides-then-from-ge-END.ensures.top c.requires.target

pub seek_some-returns-then-from-ge-END-clause-accounts : goal.seek_some-returns-then-from-ge-END-clause-accounts
seek_some-returns-then-from-ge-END-clause-accounts g t c =
    some_ended_accounts c.requires.needed (some_go c.requires.needed c.matches.invariant.within c.matches.invariant.far c.lead-head.ensures.led c.lead-head.ensures.moved (omega (arith, c.if-head-ge-END.false)) c.weigh-weight.ensures.weighed c.weigh-weight.ensures.moved (omega (arith, c.if-weight-need.false))) c.end_sides-then-from-ge-END.ensures.over

pub seek_some-returns-then-weight-need-clause-sought : goal.seek_some-returns-then-weight-need-clause-sought
seek_some-returns-then-weight-need-clause-sought g t c =
    some_found c.requires.needed c.matches.invariant.within c.matches.invariant.far c.lead-head.ensures.led c.lead-head.ensures.moved (omega (arith, c.if-head-ge-END.false)) c.weigh-weight.ensures.weighed c.weigh-weight.ensures.moved (omega (arith, c.if-weight-need.true))
    (spends_then c.matches.invariant.spends (spends_then c.lead-head.ensures.spends c.weigh-weight.ensures.spends)) c.sides_greatest-top.ensures.there c.sides_greatest-top.ensures.ended c.sides_greatest-top.ensures.bound

pub seek_some-returns-then-weight-need-clause-accounts : goal.seek_some-returns-then-weight-need-clause-accounts
seek_some-returns-then-weight-need-clause-accounts g t c =
    some_found_accounts c.requires.needed c.matches.invariant.within c.matches.invariant.far c.lead-head.ensures.led c.lead-head.ensures.moved (omega (arith, c.if-head-ge-END.false)) c.weigh-weight.ensures.weighed c.weigh-weight.ensures.moved

pub lead-returns-then-most-need-clause-led : goal.lead-returns-then-most-need-clause-led
lead-returns-then-most-need-clause-led g t c =
    led_none c.args.index.now c.args.need c.args.from c.args.last c.args.most (sides_on c.args.tops.now c.args.nodes.now) c.requires.sound c.requires.most (omega (arith, c.if-most-need.true)) c.requires.last

pub weigh-returns-then-others-most-clause-weighed : goal.weigh-returns-then-others-most-clause-weighed
weigh-returns-then-others-most-clause-weighed g t c =
    weighed_light c.args.index.now c.args.need c.args.id c.args.others c.args.most (sides_on c.args.tops.now c.args.nodes.now) c.requires.sound c.requires.most (omega (arith, c.if-others-most.true))

pub weigh-returns-in-Some-split_first_mut-clause-weighed : goal.weigh-returns-in-Some-split_first_mut-clause-weighed
weigh-returns-in-Some-split_first_mut-clause-weighed g t c =
    first_weighed c.in-Some.ensures.cases c.in-Some-split_first_mut.ensures.cases c.reach.ensures.sought
    (c.weight_at.ensures.there (rest c.args.index.now (shape_of c.reach.new.node)) c.reach.ensures.sought.lands.top.head c.reach.ensures.sought.lands.reached c.requires.id) c.weigh.ensures.weighed

pub lead-returns-in-Some-split_first_mut-clause-moved : goal.lead-returns-in-Some-split_first_mut-clause-moved
lead-returns-in-Some-split_first_mut-clause-moved g t c =
    first_moved c.in-Some.ensures.cases c.in-Some-split_first_mut.ensures.cases c.reach.ensures.sought c.reach.ensures.accounts.all c.lead.ensures.moved

pub weigh-returns-in-Some-split_first_mut-clause-moved : goal.weigh-returns-in-Some-split_first_mut-clause-moved
weigh-returns-in-Some-split_first_mut-clause-moved g t c =
    first_moved c.in-Some.ensures.cases c.in-Some-split_first_mut.ensures.cases c.reach.ensures.sought c.reach.ensures.accounts.all c.weigh.ensures.moved

pub reach_few-returns-in-Some-split_first_mut-clause-moved : goal.reach_few-returns-in-Some-split_first_mut-clause-moved
reach_few-returns-in-Some-split_first_mut-clause-moved g t c =
    first_moved c.in-Some.ensures.cases c.in-Some-split_first_mut.ensures.cases c.reach.ensures.sought c.reach.ensures.accounts.all c.reach_few.ensures.moved

pub seek_or_many-returns-then-need-eq0-clause-sought : goal.seek_or_many-returns-then-need-eq0-clause-sought
seek_or_many-returns-then-need-eq0-clause-sought g t c = c.seek_all.ensures.sought c.args.need

pub seek_or_many-returns-then-need-eq0-clause-accounts : goal.seek_or_many-returns-then-need-eq0-clause-accounts
seek_or_many-returns-then-need-eq0-clause-accounts g t c = c.seek_all.ensures.accounts c.args.need

pub seek_xor_many-all-init : goal.seek_xor_many-all-init
seek_xor_many-all-init g t c = record {
  far = xor_begun c.args.index.now c.args.target (sides_on c.args.tops.now c.args.nodes.now) c.requires.sides c.requires.target;
  spends = spends_none _ _ _;
}

pub seek_some-matches-preserved : goal.seek_some-matches-preserved
seek_some-matches-preserved g t c =
    record {
      far = some_go c.requires.needed c.matches.invariant.within c.matches.invariant.far c.lead-head.ensures.led c.lead-head.ensures.moved (omega (arith, c.if-head-ge-END.false)) c.weigh-weight.ensures.weighed c.weigh-weight.ensures.moved (omega (arith, c.if-weight-need.false));
      within = omega (arith, c.if-from-ge-END.false);
      spends = spends_then c.matches.invariant.spends (spends_then c.lead-head.ensures.spends c.weigh-weight.ensures.spends);
    }

-- ---- what is asked of the nodes that are moved on

pub reach-reach_inner-requires : goal.reach-reach_inner-requires
reach-reach_inner-requires g t c κs within = (omega (arith, c.decreases), (within, (omega (arith, c.if-target-top.false), (c.if-top-need.false, (c.requires.top, (c.requires.sound, (c.requires.target, c.requires.room)))))))

pub reach_inner-seek-requires : goal.reach_inner-seek-requires
reach_inner-seek-requires g t c κs within =
    let settled = c.settle.ensures.decays c.args.index.now c.requires.sound in
    (omega (arith, c.decreases, settled.smaller), (within, (settled.sound, (c.requires.target, omega (arith, c.requires.room, settled.unread)))))

pub seek-seek_sides-requires : goal.seek-seek_sides-requires
seek-seek_sides-requires g t c κs within =
    let i = c.args.index.now in
    let shape = pair_read c.in-Pair.is c.in-Pair.form-is c.in-Pair.ta-is c.in-Pair.tb-is c.in-Pair.a-is c.deref_mut.ensures.value c.in-Pair.b-is c.deref_mut-in-Pair.ensures.value in
    (omega (arith, c.decreases, ap size_of shape), (within, (subst (λ (s : Shape). Sound i s) shape c.requires.sound, (c.requires.target, omega (arith, c.requires.room, ap (unread_of i) shape)))))

pub seek-seek_xor_many-requires : goal.seek-seek_xor_many-requires
seek-seek_xor_many-requires g t c κs within =
    let i = c.args.index.now in
    let shape = xor_many_read c.in-XorMany.is c.in-XorMany.tops-is c.deref_mut-in-XorMany.ensures.value c.in-XorMany.nodes-is c.deref_mut-in-XorMany-2.ensures.value in
    (omega (arith, c.decreases, ap size_of shape), (within, (subst (λ (s : Shape). Sound i s) shape c.requires.sound, (c.requires.target, omega (arith, c.requires.room, ap (unread_of i) shape)))))

pub seek-seek_or_many-requires : goal.seek-seek_or_many-requires
seek-seek_or_many-requires g t c κs within =
    let i = c.args.index.now in
    let shape = or_many_read c.in-OrMany.is c.in-OrMany.tops-is c.deref_mut-in-OrMany.ensures.value c.in-OrMany.nodes-is c.deref_mut-in-OrMany-2.ensures.value in
    (omega (arith, c.decreases, ap size_of shape), (within, (subst (λ (s : Shape). Sound i s) shape c.requires.sound, (c.requires.target, omega (arith, c.requires.room, ap (unread_of i) shape)))))

pub seek-seek_positional-requires : goal.seek-seek_positional-requires
seek-seek_positional-requires g t c κs within =
    let i = c.args.index.now in
    let shape = positional_read c.in-Positional.is c.in-Positional.test-is c.in-Positional.below-is c.in-Positional.node-is c.deref_mut-in-Positional.ensures.value in
    (omega (arith, c.decreases, ap size_of shape), (within, (subst (λ (s : Shape). Sound i s) shape c.requires.sound, (c.requires.target, omega (arith, c.requires.room, ap (unread_of i) shape)))))

pub seek-seek_synonym-requires : goal.seek-seek_synonym-requires
seek-seek_synonym-requires g t c κs within =
    let i = c.args.index.now in
    let shape = synonym_read c.in-Synonym.is c.in-Synonym.scheme-is c.in-Synonym.factor-is c.in-Synonym.below-is c.in-Synonym.node-is c.deref_mut-in-Synonym.ensures.value in
    (omega (arith, c.decreases, ap size_of shape), (within, (subst (λ (s : Shape). Sound i s) shape c.requires.sound, (c.requires.target, omega (arith, c.requires.room, ap (unread_of i) shape)))))

pub seek_sides-seek_pair-requires : goal.seek_sides-seek_pair-requires
seek_sides-seek_pair-requires g t c κs within = (omega (arith, c.decreases), (within, (c.requires.pair, (c.requires.target, c.requires.room))))

pub seek_sides-seek_pair-requires-in-And : goal.seek_sides-seek_pair-requires-in-And
seek_sides-seek_pair-requires-in-And g t c κs within = (omega (arith, c.decreases), (within, (c.requires.pair, (c.requires.target, c.requires.room))))

pub seek_sides-seek_pair-requires-in_default : goal.seek_sides-seek_pair-requires-in_default
seek_sides-seek_pair-requires-in_default g t c κs within = (omega (arith, c.decreases), (within, (c.requires.pair, (c.requires.target, c.requires.room))))

pub seek_pair-reach-requires : goal.seek_pair-reach-requires
seek_pair-reach-requires g t c κs within = (omega (arith, c.decreases, c.sides.invariant.far.first_smaller), (within, (c.sides.invariant.far.pair.first, (c.sides.invariant.far.pair.first_sound, (c.sides.invariant.far.within, omega (arith, c.requires.room, c.sides.invariant.spends.paid))))))

pub seek_pair-reach-requires-in-sides : goal.seek_pair-reach-requires-in-sides
seek_pair-reach-requires-in-sides g t c κs within = (omega (arith, c.decreases, c.sides.invariant.far.second_smaller), (within, (c.sides.invariant.far.pair.second, (c.sides.invariant.far.pair.second_sound, (omega (arith, c.if-next-ge-END.false), omega (arith, c.requires.room, c.sides.invariant.spends.paid, c.reach.ensures.sought.spends.paid))))))

pub seek_xor_many-reach_all-requires : goal.seek_xor_many-reach_all-requires
seek_xor_many-reach_all-requires g t c κs within = (omega (arith, c.decreases, c.all.invariant.far.smaller), (within, (c.all.invariant.far.sides.sides, (c.all.invariant.far.within, omega (arith, c.requires.room, c.all.invariant.spends.paid)))))

pub seek_or_many-seek_all-requires : goal.seek_or_many-seek_all-requires
seek_or_many-seek_all-requires g t c κs within = (omega (arith, c.decreases), (within, (c.requires.sides, (c.requires.target, c.requires.room))))

pub seek_or_many-seek_some-requires : goal.seek_or_many-seek_some-requires
seek_or_many-seek_some-requires g t c κs within = (omega (arith, c.decreases), (within, (omega (arith, c.if-need-eq0.false), (c.requires.sides, (c.requires.target, c.requires.room)))))

pub seek_or_many-returns-clause-sought : goal.seek_or_many-returns-clause-sought
seek_or_many-returns-clause-sought g t c = c.seek_some.ensures.sought

pub seek_or_many-returns-clause-accounts : goal.seek_or_many-returns-clause-accounts
seek_or_many-returns-clause-accounts g t c = c.seek_some.ensures.accounts

pub seek_all-reach_all-requires : goal.seek_all-reach_all-requires
seek_all-reach_all-requires g t c κs within = (omega (arith, c.decreases), (within, (c.requires.sides.sides, (c.requires.target, c.requires.room))))

pub lead-reach-requires : goal.lead-reach-requires
lead-reach-requires g t c κs within =
    let has = has_first c.in-Some.ensures.cases c.in-Some-split_first_mut.ensures.cases c.args.index.now c.requires.sound in
    (omega (arith, c.decreases, has.sizes), (within, (has.top, (has.sound, (c.requires.from, omega (arith, c.requires.room, has.unread))))))

pub weigh-reach-requires : goal.weigh-reach-requires
weigh-reach-requires g t c κs within =
    let has = has_first c.in-Some.ensures.cases c.in-Some-split_first_mut.ensures.cases c.args.index.now c.requires.sound in
    (omega (arith, c.decreases, has.sizes), (within, (has.top, (has.sound, (c.requires.id, omega (arith, c.requires.room, has.unread))))))

pub reach_few-reach-requires : goal.reach_few-reach-requires
reach_few-reach-requires g t c κs within =
    let has = has_first c.in-Some.ensures.cases c.in-Some-split_first_mut.ensures.cases c.args.index.now c.requires.sound in
    (omega (arith, c.decreases, has.sizes), (within, (has.top, (has.sound, (c.requires.target, omega (arith, c.requires.room, has.unread))))))

pub reach_few-reach_few-requires : goal.reach_few-reach_few-requires
reach_few-reach_few-requires g t c κs within =
    let has = has_first c.in-Some.ensures.cases c.in-Some-split_first_mut.ensures.cases c.args.index.now c.requires.sound in
    (omega (arith, c.decreases, has.sizes), (within, (has.others, (c.requires.target, omega (arith, c.requires.room, has.unread, c.reach.ensures.sought.spends.paid)))))

pub reach_all-reach_few-requires : goal.reach_all-reach_few-requires
reach_all-reach_few-requires g t c κs within = (omega (arith, c.decreases), (within, (c.requires.sound, (c.requires.target, c.requires.room))))

pub seek_positional-reach-requires : goal.seek_positional-reach-requires
seek_positional-reach-requires g t c κs within = (omega (arith, c.decreases, c.tests.invariant.far.smaller), (within, (c.tests.invariant.far.top, (c.tests.invariant.far.sound, (c.tests.invariant.far.bound, omega (arith, c.requires.room, c.tests.invariant.spends.paid))))))

pub seek_synonym-reach-requires : goal.seek_synonym-reach-requires
seek_synonym-reach-requires g t c κs within = (omega (arith, c.decreases), (within, (c.requires.synonym.top, (c.requires.synonym.sound, (c.requires.target, c.requires.room)))))

pub seek_some-lead-head-requires : goal.seek_some-lead-head-requires
seek_some-lead-head-requires g t c κs within = (omega (arith, c.decreases, c.matches.invariant.far.smaller), (within, (c.matches.invariant.far.sides.sides, (c.matches.invariant.within, (omega (arith, c.requires.room, c.matches.invariant.spends.paid), (omega (arith, c.sum_of-most.ensures, c.matches.invariant.far.falls), omega (arith, c.matches.invariant.within)))))))

pub lead-returns-then-most-need-clause-spends : goal.lead-returns-then-most-need-clause-spends
lead-returns-then-most-need-clause-spends g t c = spends_none _ _ _

pub lead-returns-in_default-clause-spends : goal.lead-returns-in_default-clause-spends
lead-returns-in_default-clause-spends g t c = spends_none _ _ _

pub weigh-returns-then-others-most-clause-spends : goal.weigh-returns-then-others-most-clause-spends
weigh-returns-then-others-most-clause-spends g t c = spends_none _ _ _

pub weigh-returns-in_default-clause-spends : goal.weigh-returns-in_default-clause-spends
weigh-returns-in_default-clause-spends g t c = spends_none _ _ _

pub reach_few-returns-in_default-clause-spends : goal.reach_few-returns-in_default-clause-spends
reach_few-returns-in_default-clause-spends g t c = spends_none _ _ _

pub reach_all-returns-then-count-le-FEW-clause-moved : goal.reach_all-returns-then-count-le-FEW-clause-moved
reach_all-returns-then-count-le-FEW-clause-moved g t c = c.reach_few.ensures.moved

pub reach_all-returns-then-count-le-FEW-clause-sought : goal.reach_all-returns-then-count-le-FEW-clause-sought
reach_all-returns-then-count-le-FEW-clause-sought g t c = c.reach_few.ensures.sought

pub reach_all-returns-then-count-le-FEW-clause-reached : goal.reach_all-returns-then-count-le-FEW-clause-reached
reach_all-returns-then-count-le-FEW-clause-reached g t c = c.reach_few.ensures.reached

pub reach_all-returns-then-count-le-FEW-clause-spends : goal.reach_all-returns-then-count-le-FEW-clause-spends
reach_all-returns-then-count-le-FEW-clause-spends g t c = c.reach_few.ensures.spends
