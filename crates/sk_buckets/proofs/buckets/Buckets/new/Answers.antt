use Rattle.std.proofs.Common.{◌≡◌, ◌+◌, List, length, drop, replicate, ap, subst, ◌∙◌, arith}
use Rattle.std.proofs.lemmas.List.{take_at}
use Rattle.sk_buckets.specs.declared.mark.Mark.{Mark}
use Rattle.sk_buckets.specs.Marks.{first_head, greatest_of}
use Rattle.sk_buckets.specs.Dealt.{AreDealt, AllFrom}
use Rattle.sk_buckets.proofs.MarkLemmas.{all_from_first}
use Rattle.sk_buckets.proofs.DealtLemmas.{empty, none_dealt}
use Rattle.sk_buckets.proofs.buckets.Buckets.new.Goals as goal

pub deal-requires-clause-from : goal.deal-requires-clause-from
deal-requires-clause-from c = rw (c.least_head-base.ensures, c.deref-2.ensures.value, c.deref-3.ensures.value) (all_from_first c.args.marks.items)

pub deal-requires-clause-empty : goal.deal-requires-clause-empty
deal-requires-clause-empty c =
    let is : c.in_ok-buckets.buckets.items ≡ replicate c.room_for.result empty = c.in_ok-buckets.ensures.items_if_clones_equal (λ y e. e) in
    rw (c.deref_mut.ensures.value, is) (none_dealt c.least_head-base.result c.room_for.result c.deref_mut-2.result.now)

pub invariant_of-result : goal.invariant_of-result
invariant_of-result c =
    let base : c.least_head-base.result ≡ first_head c.args.marks.items = c.least_head-base.ensures ∙ ap first_head c.deref-2.ensures.value in
    let start : first_head c.args.marks.items ≡ c.least_head-base.result + 0 = omega (arith, base) in
    rw (take_at c.deal.new.buckets (drop (length c.deal.new.buckets) c.in_ok-buckets.buckets.items) c.in_ok-buckets.buckets.len (omega (arith, c.deal.ensures.len, c.in_ok-buckets.ensures.len)), take_at c.deal.new.next (drop (length c.deal.new.next) c.in_ok-next.next.items) c.in_ok-next.next.len (omega (arith, c.deal.ensures.long, c.in_ok-next.ensures.len)))
    (record {
      are = c.requires;
      sum = c.greatest-greatest.ensures ∙ ap greatest_of c.deref.ensures.value;
      reached = subst (λ id. AllFrom id c.args.marks.items) start (all_from_first c.args.marks.items);
      within = omega arith;
      some = λ _. omega (arith, c.deal.ensures.len, c.in_ok-buckets.ensures.len);
      long = omega (arith, c.deal.ensures.long, c.in_ok-next.ensures.len);
      dealt = subst (λ (ms : List Mark). AreDealt ms c.least_head-base.result c.deal.new.buckets c.deal.new.next) c.deref-3.ensures.value c.deal.ensures.dealt;
    })
