use Rattle.std.proofs.Common.{arith}
use Rattle.sk_buckets.proofs.DealtLemmas.{entered, stays_out, enter_few, enter_light}
use Rattle.sk_buckets.proofs.deal.enter.Goals as goal

pub put_in-requires-clause-room : goal.put_in-requires-clause-room
put_in-requires-clause-room c =
    let few = enter_few c.args.marks.now c.args.base c.args.buckets.now c.args.next.now c.args.which c.requires.there c.requires.dealt c.in-Some.place c.in-Some.ensures.there.0 c.in-Some.ensures.there.1 in
    omega (arith, few, c.requires.are.few)

pub put_in-requires-clause-light : goal.put_in-requires-clause-light
put_in-requires-clause-light c =
    enter_light c.args.marks.now c.args.base c.args.buckets.now c.args.next.now c.args.which c.requires.there c.requires.dealt c.in-Some.place c.in-Some.ensures.there.0 c.in-Some.ensures.there.1 c.requires.are

pub returns-in-Some-clause-dealt : goal.returns-in-Some-clause-dealt
returns-in-Some-clause-dealt c =
    rw (c.put_in.ensures.bucket, c.put_in.ensures.next)
    (entered c.args.marks.now c.args.base c.args.buckets.now c.args.next.now c.args.which c.requires.there c.requires.dealt c.in-Some.place c.in-Some.ensures.there.0 c.in-Some.ensures.there.1 (omega (arith, c.requires.there, c.requires.long)))

pub returns-in_default-clause-dealt : goal.returns-in_default-clause-dealt
returns-in_default-clause-dealt c = stays_out c.args.marks.now c.args.base c.args.buckets.now c.args.next.now c.args.which c.requires.there c.requires.dealt c.in_default.ensures.behind
