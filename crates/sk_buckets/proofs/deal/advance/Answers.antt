use Rattle.std.proofs.Common.{length, subst, ◌≡◌, ◌+◌, arith}
use Rattle.sk_buckets.specs.Marks.{first_head}
use Rattle.sk_buckets.specs.Dealt.{AreDealt, AllFrom}
use Rattle.sk_buckets.proofs.MarkLemmas.{all_from_first}
use Rattle.sk_buckets.proofs.DealtLemmas.{passed, none_left, filled_first}
use Rattle.sk_buckets.proofs.deal.advance.Goals as goal

pub returns-then-at-buckets-clause-from : goal.returns-then-at-buckets-clause-from
returns-then-at-buckets-clause-from c =
    passed c.args.marks.now c.args.base c.args.buckets.now c.args.next.now c.requires.dealt c.args.at c.first_filled-at.result c.first_filled-at.ensures.within c.first_filled-at.ensures.empty c.first_filled-at.ensures.from c.requires.from

pub deal-requires-clause-from : goal.deal-requires-clause-from
deal-requires-clause-from c = rw c.least_head-base.ensures (all_from_first c.args.marks.now)

pub deal-requires-clause-empty : goal.deal-requires-clause-empty
deal-requires-clause-empty c =
    let from : AllFrom (c.args.base + c.first_filled-at.result) c.args.marks.now = passed c.args.marks.now c.args.base c.args.buckets.now c.args.next.now c.requires.dealt c.args.at c.first_filled-at.result c.first_filled-at.ensures.within c.first_filled-at.ensures.empty c.first_filled-at.ensures.from c.requires.from in
    let all : c.first_filled-at.result ≡ length c.args.buckets.now = omega arith in
    none_left c.args.marks.now c.args.base c.least_head-base.result c.args.buckets.now c.args.next.now (subst (λ n. AllFrom (c.args.base + n) c.args.marks.now) all from) c.requires.dealt

pub returns-clause-filled : goal.returns-clause-filled
returns-clause-filled c = filled_first c.args.marks.now c.deal.new.buckets c.deal.new.next c.requires.are c.requires.some (omega (arith, c.deal.ensures.len, c.requires.room))
    (subst (λ b. AreDealt c.args.marks.now b c.deal.new.buckets c.deal.new.next) c.least_head-base.ensures c.deal.ensures.dealt)

pub returns-clause-from : goal.returns-clause-from
returns-clause-from c =
    let is : first_head c.args.marks.now ≡ c.least_head-base.result + 0 = omega (arith, c.least_head-base.ensures) in
    subst (λ b. AllFrom b c.args.marks.now) is (all_from_first c.args.marks.now)
