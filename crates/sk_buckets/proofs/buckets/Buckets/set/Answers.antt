use Rattle.std.proofs.Common.{◌≡◌, ℕ, ◌<◌, ◌≤◌, ◌+◌, List, length, drop, get_or, set, sym, ap, subst, ◌∙◌, arith}
use Rattle.std.proofs.lemmas.List.{take_at, set-set, get_or_read}
use Rattle.sk_buckets.specs.declared.mark.Mark.{Mark}
use Rattle.sk_buckets.specs.declared.bucket.Bucket.{Bucket}
use Rattle.sk_buckets.specs.Dealt.{mark_at, AreDealt}
use Rattle.sk_buckets.proofs.MarkLemmas.{greatest_least}
use Rattle.sk_buckets.proofs.CallLemmas.{are_moved, buckets_moved}
use Rattle.sk_buckets.proofs.buckets.Buckets.set.Goals as goal

pub overflow_sub-self : goal.overflow_sub-self
overflow_sub-self c =
    let ms = c.self.inside.marks.items in
    let l : c.args.which < length ms = omega (arith, ap length c.self.view_is, c.requires.there) in
    let was : c.index.result.now ≡ mark_at ms c.args.which = get_or_read ms c.args.which c.index.result.now l c.index.ensures _ in
    omega (arith, ap (λ (m : Mark). m.greatest) was, greatest_least ms c.args.which l, c.self.invariant.sum)

pub enter-requires-clause-are : goal.enter-requires-clause-are
enter-requires-clause-are c =
    let ms = c.self.inside.marks.items in
    let l : c.args.which < length ms = omega (arith, ap length c.self.view_is, c.requires.there) in
    rw c.deref-2.ensures.value
    (are_moved ms c.args.which c.args.mark l c.requires.is
    (subst (λ (ns : List Mark). (get_or ns c.args.which c.args.mark).head ≤ c.args.mark.head) (sym c.self.view_is) c.requires.later)
    (subst (λ (ns : List Mark). c.args.mark.greatest ≤ (get_or ns c.args.which c.args.mark).greatest) (sym c.self.view_is) c.requires.falls)
    c.self.invariant.are)

pub enter-requires-clause-dealt : goal.enter-requires-clause-dealt
enter-requires-clause-dealt c = λ far le.
    let ms = c.self.inside.marks.items in
    let bs : c.deref_mut-3.result.now ≡ c.leave.new.buckets = c.deref_mut-3.ensures.value ∙ take_at c.leave.new.buckets (drop (length c.leave.new.buckets) c.self.inside.buckets.items) c.self.inside.buckets.len (omega arith) in
    let next : c.deref_mut-4.result.now ≡ c.leave.new.next = c.deref_mut-4.ensures.value ∙ take_at c.leave.new.next (drop (length c.leave.new.next) c.self.inside.next.items) c.self.inside.next.len (omega arith) in
    let behind : c.self.inside.base + length c.deref_mut-3.result.now ≤ far.head = le in
    let marks : set c.deref.result.now c.args.which far ≡ set c.deref-2.result.now c.args.which far =
    ap (λ (l : List Mark). set l c.args.which far) c.deref.ensures.value ∙ sym (set-set ms c.args.which c.args.mark far) ∙ sym (ap (λ (l : List Mark). set l c.args.which far) c.deref-2.ensures.value) in
    let dealt : AreDealt (set c.deref.result.now c.args.which far) c.self.inside.base c.leave.new.buckets c.leave.new.next = c.leave.ensures.dealt far (omega (arith, behind, ap length bs, c.leave.ensures.len)) in
    subst (λ (l : List Bucket). AreDealt (set c.deref-2.result.now c.args.which far) c.self.inside.base l c.deref_mut-4.result.now) (sym bs)
    (subst (λ (l : List ℕ). AreDealt (set c.deref-2.result.now c.args.which far) c.self.inside.base c.leave.new.buckets l) (sym next)
    (subst (λ (l : List Mark). AreDealt l c.self.inside.base c.leave.new.buckets c.leave.new.next) marks dealt))

pub invariant_of-self : goal.invariant_of-self
invariant_of-self c =
    let ms = c.self.inside.marks.items in
    let l : c.args.which < length ms = omega (arith, ap length c.self.view_is, c.requires.there) in
    let bs = c.enter.new.buckets in
    let next = c.enter.new.next in
    let len : length bs ≡ length c.self.inside.buckets.items = omega (arith, c.enter.ensures.len, c.leave.ensures.len) in
    let long : length next ≡ length c.self.inside.next.items = omega (arith, c.enter.ensures.long, c.leave.ensures.long) in
    rw (take_at bs _ c.self.inside.buckets.len (omega (arith, len)), take_at next _ c.self.inside.next.len (omega (arith, long)))
    (buckets_moved ms c.args.which c.args.mark l c.requires.is
    (subst (λ (ns : List Mark). (get_or ns c.args.which c.args.mark).head ≤ c.args.mark.head) (sym c.self.view_is) c.requires.later)
    (subst (λ (ns : List Mark). c.args.mark.greatest ≤ (get_or ns c.args.which c.args.mark).greatest) (sym c.self.view_is) c.requires.falls)
    c.index.result.now c.from.result c.self.inside.greatest c.self.inside.base c.self.inside.at c.self.inside.buckets.items bs c.self.inside.next.items next c.from.ensures c.index.ensures len long
    (subst (λ (ns : List Mark). AreDealt ns c.self.inside.base bs next) c.deref-2.ensures.value c.enter.ensures.dealt) c.self.invariant)
