-- There is an entry where the id has a place, and none where it has a gap.
use Rattle.std.proofs.Common.{◌≡◌, ℕ, Result, Ok, Err, IfOk, IfErr, is_ok, is_some, sym, ap, subst, ◌∙◌}
use Rattle.sk_sorted.specs.Entries.{RiseAbove, has}
use Rattle.sk_sorted.specs.Places.{IsAt, IsGapFor}
use Rattle.sk_sorted.proofs.PlaceLaws.{found_at, found_in_gap}
use Rattle.sk_chunks.specs.Postings.{Postings}
use Rattle.sk_chunks.proofs.chunk.Chunk.has.Goals as goal

told : (ps : Postings) (id : ℕ) (r : Result ℕ ℕ) → RiseAbove 0 ps → IfOk r (IsAt ps id) → IfErr r (IsGapFor ps id) → is_ok r ≡ has id ps
told ps id (Ok at) up here gap = sym (ap is_some (found_at 0 ps id at (0, 0) up here))
told ps id (Err at) up here gap = sym (ap is_some (found_in_gap ps id at gap))

pub returns-clause-value : goal.returns-clause-value
returns-clause-value c =
    c.is_ok.ensures.value
    ∙ told c.self.inside.entries.items c.args.id c.place_of.result c.self.invariant.sorted.rise
    (subst (λ l. IfOk c.place_of.result (IsAt l c.args.id)) c.as_slice.ensures.value c.place_of.ensures.found)
    (subst (λ l. IfErr c.place_of.result (IsGapFor l c.args.id)) c.as_slice.ensures.value c.place_of.ensures.absent)
    ∙ ap (has c.args.id) c.self.view_is
