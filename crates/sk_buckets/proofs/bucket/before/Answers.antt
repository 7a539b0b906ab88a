use Rattle.std.proofs.Common.{◌<◌, length, rules}
use Rattle.sk_buckets.proofs.ChainLemmas.{among_all, walk_among, walk_goes_on}
use Rattle.sk_buckets.proofs.bucket.before.Goals as goal

pub bounds-next-at : goal.bounds-next-at
bounds-next-at c = c.requires.within c.walk.at (among_all c.args.count c.args.next.now c.args.first c.walk.at
    (walk_among c.args.next.now c.args.first c.args.count c.args.which c.walk.counter c.walk.at c.walk-test.true c.walk.invariant))

pub offset_bounds-next-at : goal.offset_bounds-next-at
offset_bounds-next-at c =
    let in' : c.walk.at < length c.args.next.now = c.requires.within c.walk.at (among_all c.args.count c.args.next.now c.args.first c.walk.at
    (walk_among c.args.next.now c.args.first c.args.count c.args.which c.walk.counter c.walk.at c.walk-test.true c.walk.invariant)) in
    search rules

pub returns-then-behind-which-clause-there : goal.returns-then-behind-which-clause-there
returns-then-behind-which-clause-there c = walk_among c.args.next.now c.args.first c.args.count c.args.which c.walk.counter c.walk.at c.walk-test.true c.walk.invariant

pub walk-preserved : goal.walk-preserved
walk-preserved c = walk_goes_on c.args.next.now c.args.first c.args.count c.args.which c.walk.counter c.walk.at c.walk-test.true c.if-behind-which.false c.walk.invariant
