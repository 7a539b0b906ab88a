-- The edit is `put`, which keeps the entries sorted, and what was read at the place is what was found.
use Rattle.std.proofs.Common.{sym, ap, subst, ◌∙◌, is_some}
use mathlib.Core.Bool.{true≢false}
use Rattle.sk_sorted.specs.Entries.{AreSorted, put, found}
use Rattle.sk_sorted.specs.Places.{IsAt, IsGapFor}
use Rattle.sk_sorted.proofs.EntryLaws.{AreSorted-put}
use Rattle.sk_sorted.proofs.PlaceLaws.{put_over, put_in_gap, found_read, found_in_gap}
use Rattle.sk_sorted.proofs.sorted.Sorted.put.Goals as goal

pub invariant_of-self : goal.invariant_of-self
invariant_of-self g c =
    let here = subst (λ l. IsAt l c.args.id c.in-Ok.at) c.as_slice.ensures.value c.in-Ok.ensures.found in
    subst AreSorted (sym (put_over _ c.args.id c.args.x c.replace.new.dest c.in-Ok.at c.index_mut.result.now c.self.invariant.rise here c.index_mut.ensures.value c.replace.ensures.after))
    (AreSorted-put _ _ _ c.requires c.ranges.id.fits c.self.invariant)

pub invariant_of-self-in-Err : goal.invariant_of-self-in-Err
invariant_of-self-in-Err g c =
    let gap = subst (λ l. IsGapFor l c.args.id c.in-Err.at) c.as_slice.ensures.value c.in-Err.ensures.absent in
    subst AreSorted (sym (c.in_ok-insert-in-Err.ensures.items ∙ put_in_gap _ c.args.id c.args.x c.in-Err.at gap)) (AreSorted-put _ _ _ c.requires c.ranges.id.fits c.self.invariant)

pub returns-in-Ok-clause-ok : goal.returns-in-Ok-clause-ok
returns-in-Ok-clause-ok g c =
    let here = subst (λ l. IsAt l c.args.id c.in-Ok.at) c.as_slice.ensures.value c.in-Ok.ensures.found in
    put_over _ c.args.id c.args.x c.replace.new.dest c.in-Ok.at c.index_mut.result.now c.self.invariant.rise here c.index_mut.ensures.value c.replace.ensures.after
    ∙ ap (put c.args.id c.args.x) c.self.view_is

pub returns-in-Ok-clause-gone : goal.returns-in-Ok-clause-gone
returns-in-Ok-clause-gone g c =
    let here = subst (λ l. IsAt l c.args.id c.in-Ok.at) c.as_slice.ensures.value c.in-Ok.ensures.found in
    ap Rattle.std.proofs.Common.Some c.replace.ensures.value ∙ found_read _ c.args.id c.in-Ok.at c.index_mut.result.now c.self.invariant.rise here c.index_mut.ensures.value ∙ ap (found c.args.id) c.self.view_is

pub returns-in_ok-insert-in-Err-clause-ok : goal.returns-in_ok-insert-in-Err-clause-ok
returns-in_ok-insert-in-Err-clause-ok g c =
    let gap = subst (λ l. IsGapFor l c.args.id c.in-Err.at) c.as_slice.ensures.value c.in-Err.ensures.absent in
    c.in_ok-insert-in-Err.ensures.items ∙ put_in_gap _ c.args.id c.args.x c.in-Err.at gap ∙ ap (put c.args.id c.args.x) c.self.view_is

pub returns-in_ok-insert-in-Err-clause-gone : goal.returns-in_ok-insert-in-Err-clause-gone
returns-in_ok-insert-in-Err-clause-gone g c = sym (found_in_gap _ _ c.in-Err.at (subst (λ l. IsGapFor l c.args.id c.in-Err.at) (c.as_slice.ensures.value ∙ c.self.view_is) c.in-Err.ensures.absent))

pub returns-in_err-insert-in-Err-clause-succeeds : goal.returns-in_err-insert-in-Err-clause-succeeds
returns-in_err-insert-in-Err-clause-succeeds g c there =
    let gap = subst (λ l. IsGapFor l c.args.id c.in-Err.at) (c.as_slice.ensures.value ∙ c.self.view_is) c.in-Err.ensures.absent in
    absurd (true≢false (sym there ∙ ap is_some (found_in_gap _ _ c.in-Err.at gap)))
