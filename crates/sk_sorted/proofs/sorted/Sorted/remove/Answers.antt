-- The edit is `without`, which keeps the entries sorted, and what was read at the place is what was found.
use Rattle.std.proofs.Common.{sym, ap, subst, ◌∙◌}
use Rattle.sk_sorted.specs.Entries.{AreSorted, without, found}
use Rattle.sk_sorted.specs.Places.{IsAt, IsGapFor}
use Rattle.sk_sorted.proofs.EntryLaws.{AreSorted-without}
use Rattle.sk_sorted.proofs.PlaceLaws.{without_at, without_in_gap, found_read, found_in_gap}
use Rattle.sk_sorted.proofs.sorted.Sorted.remove.Goals as goal

pub invariant_of-self : goal.invariant_of-self
invariant_of-self g c =
    let here = subst (λ l. IsAt l c.args.id c.in-Ok.at) c.as_slice.ensures.value c.in-Ok.ensures.found in
    subst AreSorted (sym (c.remove-x.ensures.items ∙ without_at 0 _ c.args.id c.in-Ok.at c.self.invariant.rise here)) (AreSorted-without _ _ c.self.invariant)

pub returns-in-Ok-clause-after : goal.returns-in-Ok-clause-after
returns-in-Ok-clause-after g c =
    let here = subst (λ l. IsAt l c.args.id c.in-Ok.at) c.as_slice.ensures.value c.in-Ok.ensures.found in
    c.remove-x.ensures.items ∙ without_at 0 _ c.args.id c.in-Ok.at c.self.invariant.rise here ∙ ap (without c.args.id) c.self.view_is

pub returns-in-Ok-clause-gone : goal.returns-in-Ok-clause-gone
returns-in-Ok-clause-gone g c =
    let here = subst (λ l. IsAt l c.args.id c.in-Ok.at) c.as_slice.ensures.value c.in-Ok.ensures.found in
    found_read _ c.args.id c.in-Ok.at c.remove-x.result c.self.invariant.rise here c.remove-x.ensures.value ∙ ap (found c.args.id) c.self.view_is

pub returns-in-Err-clause-after : goal.returns-in-Err-clause-after
returns-in-Err-clause-after g c = sym (without_in_gap _ _ c.in-Err.field-0 (subst (λ l. IsGapFor l c.args.id c.in-Err.field-0) (c.as_slice.ensures.value ∙ c.self.view_is) c.in-Err.ensures.absent))

pub returns-in-Err-clause-gone : goal.returns-in-Err-clause-gone
returns-in-Err-clause-gone g c = sym (found_in_gap _ _ c.in-Err.field-0 (subst (λ l. IsGapFor l c.args.id c.in-Err.field-0) (c.as_slice.ensures.value ∙ c.self.view_is) c.in-Err.ensures.absent))
