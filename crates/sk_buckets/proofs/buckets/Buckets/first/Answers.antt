use Rattle.std.proofs.Common.{◌≡◌, ◌+◌, List, sym, ap, subst, ◌∙◌, take, drop, ◌++◌, length, get_or, arith}
use Rattle.std.proofs.lemmas.List.{take_at}
use Rattle.sk_buckets.specs.declared.bucket.Bucket.{Bucket}
use Rattle.sk_buckets.specs.Marks.{AreMarks}
use Rattle.sk_buckets.specs.Dealt.{StandsAt}
use Rattle.sk_buckets.proofs.CallLemmas.{tells_head, tells_list, head_there}
use Rattle.sk_buckets.proofs.buckets.Buckets.first.Goals as goal

pub returns-clause-head : goal.returns-clause-head
returns-clause-head c = rw (← c.self.view_is, ← c.deref.ensures.value)
    (tells_head c.deref.result.now c.advance.result.0 c.advance.result.1 c.advance.new.buckets c.advance.new.next c.advance.ensures.dealt c.advance.ensures.within c.advance.ensures.filled
    (subst AreMarks (sym c.deref.ensures.value) c.self.invariant.are) c.advance.ensures.from)

pub returns-clause-there : goal.returns-clause-there
returns-clause-there c = λ _.
    let ms = c.deref.result.now in
    let bs = c.advance.new.buckets in
    let is : take c.self.inside.buckets.len (bs ++ drop (length bs) c.self.inside.buckets.items) ≡ bs = take_at bs (drop (length bs) c.self.inside.buckets.items) c.self.inside.buckets.len (omega arith) in
    let s : StandsAt ms (c.advance.result.0 + c.advance.result.1) c.index-bucket.result.now.first = tells_list ms c.advance.result.0 c.advance.result.1 bs c.advance.new.next c.advance.ensures.dealt c.advance.ensures.within c.advance.ensures.filled
    c.index-bucket.result.now (c.index-bucket.ensures ∙ ap (λ (l : List Bucket). get_or l c.advance.result.1 c.index-bucket.result.now) is) in
    rw (← c.self.view_is, ← c.deref.ensures.value) s.within

pub returns-clause-which : goal.returns-clause-which
returns-clause-which c = λ _ d.
    let ms = c.deref.result.now in
    let bs = c.advance.new.buckets in
    let is : take c.self.inside.buckets.len (bs ++ drop (length bs) c.self.inside.buckets.items) ≡ bs = take_at bs (drop (length bs) c.self.inside.buckets.items) c.self.inside.buckets.len (omega arith) in
    let s : StandsAt ms (c.advance.result.0 + c.advance.result.1) c.index-bucket.result.now.first = tells_list ms c.advance.result.0 c.advance.result.1 bs c.advance.new.next c.advance.ensures.dealt c.advance.ensures.within c.advance.ensures.filled
    c.index-bucket.result.now (c.index-bucket.ensures ∙ ap (λ (l : List Bucket). get_or l c.advance.result.1 c.index-bucket.result.now) is) in
    rw (← c.self.view_is, ← c.deref.ensures.value) (head_there ms (c.advance.result.0 + c.advance.result.1) c.index-bucket.result.now.first d s)
