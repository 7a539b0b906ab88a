-- The edit is `without`; the last id and the greatest wdf follow it.
use Rattle.std.proofs.Common.{Some, is_some, max, sym, ap, subst, ◌∙◌}
use Rattle.sk_sorted.specs.Entries.{top_id, without, has}
use Rattle.sk_sorted.specs.Places.{IsAt, IsGapFor}
use Rattle.sk_sorted.proofs.PlaceLaws.{without_at, without_in_gap, found_read, found_in_gap}
use Rattle.sk_chunks.specs.Postings.{greatest_wdf}
use Rattle.sk_chunks.specs.Chunks.{IsChunk}
use Rattle.sk_chunks.proofs.GreatestLaws.{greatest-without}
use Rattle.sk_chunks.proofs.ChunkLemmas.{IsChunk-without}
use Rattle.sk_chunks.proofs.chunk.Chunk.remove.Goals as goal

pub greatest_without-self-inside-requires : goal.greatest_without-self-inside-requires
greatest_without-self-inside-requires c =
    let here = subst (λ l. IsAt l c.args.id c.in-Ok.at) c.as_slice.ensures.value c.in-Ok.ensures.found in
    let gone = ap Some c.wdf.ensures ∙ found_read _ c.args.id c.in-Ok.at c.remove-gone.result c.self.invariant.sorted.rise here c.remove-gone.ensures.value in
    ap (λ l. max c.wdf.result (greatest_wdf l)) (c.as_slice-in-Ok.ensures.value ∙ c.remove-gone.ensures.items ∙ without_at 0 _ c.args.id c.in-Ok.at c.self.invariant.sorted.rise here)
    ∙ greatest-without c.args.id c.wdf.result c.self.inside.entries.items gone ∙ c.self.invariant.greatest_is

pub invariant_of-self : goal.invariant_of-self
invariant_of-self c =
    let here = subst (λ l. IsAt l c.args.id c.in-Ok.at) c.as_slice.ensures.value c.in-Ok.ensures.found in
    let is = c.remove-gone.ensures.items ∙ without_at 0 c.self.inside.entries.items c.args.id c.in-Ok.at c.self.invariant.sorted.rise here in
    subst (λ l. IsChunk l c.last_of-self-inside.result c.greatest_without-self-inside.result) (sym is)
    (IsChunk-without _ _ _ c.args.id _ _ c.self.invariant
    (c.last_of-self-inside.ensures ∙ ap (top_id 0) (c.as_slice-in-Ok-2.ensures.value ∙ is))
    (c.greatest_without-self-inside.ensures ∙ ap greatest_wdf (c.as_slice-in-Ok.ensures.value ∙ is)))

pub returns-in-Ok-clause-after : goal.returns-in-Ok-clause-after
returns-in-Ok-clause-after c =
    let here = subst (λ l. IsAt l c.args.id c.in-Ok.at) c.as_slice.ensures.value c.in-Ok.ensures.found in
    c.remove-gone.ensures.items ∙ without_at 0 _ c.args.id c.in-Ok.at c.self.invariant.sorted.rise here ∙ ap (without c.args.id) c.self.view_is

pub returns-in-Ok-clause-there : goal.returns-in-Ok-clause-there
returns-in-Ok-clause-there c =
    let here = subst (λ l. IsAt l c.args.id c.in-Ok.at) c.as_slice.ensures.value c.in-Ok.ensures.found in
    ap is_some (found_read _ c.args.id c.in-Ok.at c.remove-gone.result c.self.invariant.sorted.rise here c.remove-gone.ensures.value) ∙ ap (has c.args.id) c.self.view_is

pub returns-in-Err-clause-after : goal.returns-in-Err-clause-after
returns-in-Err-clause-after c = sym (without_in_gap _ _ c.in-Err.field-0 (subst (λ l. IsGapFor l c.args.id c.in-Err.field-0) (c.as_slice.ensures.value ∙ c.self.view_is) c.in-Err.ensures.absent))

pub returns-in-Err-clause-there : goal.returns-in-Err-clause-there
returns-in-Err-clause-there c = sym (ap is_some (found_in_gap _ _ c.in-Err.field-0 (subst (λ l. IsGapFor l c.args.id c.in-Err.field-0) (c.as_slice.ensures.value ∙ c.self.view_is) c.in-Err.ensures.absent)))
