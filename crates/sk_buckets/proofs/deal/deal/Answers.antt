use Rattle.std.proofs.Common.{arith}
use Rattle.sk_buckets.proofs.DealtLemmas.{deal_more, deal_behind, deal_few, deal_light}
use Rattle.sk_buckets.proofs.deal.deal.Goals as goal
use Rattle.sk_buckets.proofs.deal.deal.Goals.{in-Some, in_default}

pub put_in-requires-clause-room : goal.put_in-requires-clause-room
put_in-requires-clause-room c =
    let few = deal_few c.args.marks.now c.args.base c.loop-which.buckets c.loop-which.next c.loop-which.which (omega arith) c.loop-which.invariant.dealt c.in-Some.place c.in-Some.ensures.there.0 in
    omega (arith, few, c.requires.are.few)

pub put_in-requires-clause-light : goal.put_in-requires-clause-light
put_in-requires-clause-light c =
    deal_light c.args.marks.now c.args.base c.loop-which.buckets c.loop-which.next c.loop-which.which (omega arith) c.loop-which.invariant.dealt c.in-Some.place c.in-Some.ensures.there.0 c.requires.are

pub loop-which-preserved : goal.loop-which-preserved
loop-which-preserved c =
    elim c.match-place_of.branch [
      | in-Some w ↦ record {
        dealt = rw (w.buckets-is, w.next-is, w.put_in.ensures.bucket, w.put_in.ensures.next)
            (deal_more c.args.marks.now c.args.base c.loop-which.buckets c.loop-which.next c.loop-which.which (omega arith) c.loop-which.invariant.dealt w.in-Some.place w.in-Some.ensures.there.0 w.in-Some.ensures.there.1 (omega (arith, c.loop-which.invariant.long)));
        len = omega arith;
        long = omega arith;
      }
      | in_default w ↦ record {
        dealt = rw (w.buckets-is, w.next-is)
            (deal_behind c.args.marks.now c.args.base c.loop-which.buckets c.loop-which.next c.loop-which.which (omega arith) c.loop-which.invariant.dealt w.in_default.ensures.behind);
        len = omega arith;
        long = omega arith;
      }
    ]
