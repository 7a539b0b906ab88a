use Rattle.std.proofs.Common.{◌+◌, set, length, arith}
use Rattle.sk_buckets.specs.Dealt.{mark_at}
use Rattle.sk_buckets.proofs.MarkLemmas.{gains_back}
use Rattle.sk_buckets.proofs.DealtLemmas.{among_within, leave_light, was_out, dealt_less}
use Rattle.sk_buckets.proofs.deal.leave.Goals as goal

pub take_out-requires-clause-within : goal.take_out-requires-clause-within
take_out-requires-clause-within c = λ i a.
    let in' = among_within c.args.marks.now c.args.base c.args.buckets.now c.args.next.now c.requires.dealt i c.in-Some.place c.in-Some.ensures.there.0 a in
    omega (arith, in', c.requires.long)

pub take_out-requires-clause-light : goal.take_out-requires-clause-light
take_out-requires-clause-light c =
    leave_light c.args.marks.now c.args.base c.args.buckets.now c.args.next.now c.args.which c.requires.there c.requires.dealt c.in-Some.place c.in-Some.ensures.there.0 c.in-Some.ensures.there.1

pub returns-in-Some-clause-dealt : goal.returns-in-Some-clause-dealt
returns-in-Some-clause-dealt c = λ far le.
    let ms = c.args.marks.now in
    dealt_less (set ms c.args.which far) ms c.args.which (mark_at ms c.args.which) c.args.base c.args.buckets.now c.args.next.now
    (gains_back ms c.args.which far (c.args.base + length c.args.buckets.now) c.requires.there le)
    c.take_out.new.buckets c.take_out.new.next c.in-Some.place c.in-Some.ensures.there.0 c.in-Some.ensures.there.1
    c.take_out.ensures.len c.take_out.ensures.others c.take_out.ensures.count c.take_out.ensures.weight c.take_out.ensures.left c.take_out.ensures.apart c.requires.dealt

pub returns-in_default-clause-dealt : goal.returns-in_default-clause-dealt
returns-in_default-clause-dealt c = λ far le.
    was_out c.args.marks.now c.args.base c.args.buckets.now c.args.next.now c.args.which c.requires.there c.requires.dealt far le c.in_default.ensures.behind
