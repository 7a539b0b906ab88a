-- What is read at the id's place is what is found, and an id that has a gap is not found.
use Rattle.std.proofs.Common.{sym, ap, subst, ◌∙◌}
use Rattle.sk_sorted.specs.Entries.{found}
use Rattle.sk_sorted.specs.Places.{IsAt, IsGapFor}
use Rattle.sk_sorted.proofs.PlaceLaws.{found_read, found_in_gap}
use Rattle.sk_sorted.proofs.sorted.Sorted.get.Goals as goal

pub returns-in-Ok : goal.returns-in-Ok
returns-in-Ok g c =
    found_read _ c.args.id c.in-Ok.at c.index.result.now c.self.invariant.rise (subst (λ l. IsAt l c.args.id c.in-Ok.at) c.as_slice.ensures.value c.in-Ok.ensures.found) c.index.ensures
    ∙ ap (found c.args.id) c.self.view_is

pub returns-in-Err : goal.returns-in-Err
returns-in-Err g c = sym (found_in_gap _ _ c.in-Err.field-0 (subst (λ l. IsGapFor l c.args.id c.in-Err.field-0) (c.as_slice.ensures.value ∙ c.self.view_is) c.in-Err.ensures.absent))
