-- The edit is `put`; the last id and the greatest wdf follow it, by whether an entry gave way.
use Rattle.std.proofs.Common.{◌≡◌, ◌⊎◌, ◌<◌, ℕ, Some, is_some, length, max, true, sym, ap, subst, ◌∙◌}
use mathlib.Core.Bool.{true≢false}
use Rattle.sk_sorted.specs.Entries.{put, has}
use Rattle.sk_sorted.specs.Places.{IsAt, IsGapFor}
use Rattle.sk_sorted.proofs.PlaceLaws.{found_read, found_in_gap}
use Rattle.sk_chunks.specs.Postings.{Postings, greatest_wdf}
use Rattle.sk_chunks.specs.Chunks.{IsChunk}
use Rattle.sk_sorted.proofs.EndLaws.{put_whole, put_whole_in_gap}
use Rattle.sk_chunks.proofs.GreatestLaws.{greatest-put_over}
use Rattle.sk_chunks.proofs.ChunkLemmas.{has_room, IsChunk-put_over, IsChunk-put_new}
use Rattle.sk_chunks.proofs.chunk.Chunk.insert.Goals as goal

pub greatest_without-self-inside-requires : goal.greatest_without-self-inside-requires
greatest_without-self-inside-requires c =
    let here = subst (λ l. IsAt l c.args.id c.in-Ok.at) c.as_slice.ensures.value c.in-Ok.ensures.found in
    let gone = ap Some (c.wdf.ensures ∙ ap (λ (e : ℕ × ℕ). e.1) c.replace-gone.ensures.value) ∙ found_read _ c.args.id c.in-Ok.at c.index_mut.result.now c.self.invariant.sorted.rise here c.index_mut.ensures.value in
    ap (λ l. max c.wdf.result (greatest_wdf l)) (c.as_slice-in-Ok.ensures.value ∙ put_whole _ c.args.id c.args.wdf c.in-Ok.at c.replace-gone.new.dest c.self.invariant.sorted.rise here (c.replace-gone.ensures.after ∙ c.new.ensures))
    ∙ greatest-put_over c.args.id c.args.wdf c.wdf.result c.self.inside.entries.items gone
    ∙ ap (λ n. max n c.args.wdf) c.self.invariant.greatest_is ∙ sym c.max-most.ensures

pub invariant_of-self : goal.invariant_of-self
invariant_of-self c =
    let here = subst (λ l. IsAt l c.args.id c.in-Ok.at) c.as_slice.ensures.value c.in-Ok.ensures.found in
    let gone = ap Some (c.wdf.ensures ∙ ap (λ (e : ℕ × ℕ). e.1) c.replace-gone.ensures.value) ∙ found_read _ c.args.id c.in-Ok.at c.index_mut.result.now c.self.invariant.sorted.rise here c.index_mut.ensures.value in
    let is = put_whole c.self.inside.entries.items c.args.id c.args.wdf c.in-Ok.at c.replace-gone.new.dest c.self.invariant.sorted.rise here (c.replace-gone.ensures.after ∙ c.new.ensures) in
    subst (λ l. IsChunk l c.self.inside.last c.greatest_without-self-inside.result) (sym is)
    (IsChunk-put_over _ _ _ c.args.id c.args.wdf c.wdf.result _ c.self.invariant c.requires.id c.ranges.id.fits gone
    (c.greatest_without-self-inside.ensures ∙ ap greatest_wdf (c.as_slice-in-Ok.ensures.value ∙ is)))

pub invariant_of-self-in-Err : goal.invariant_of-self-in-Err
invariant_of-self-in-Err c =
    let gap = subst (λ l. IsGapFor l c.args.id c.in-Err.at) c.as_slice.ensures.value c.in-Err.ensures.absent in
    let none = sym (found_in_gap c.self.inside.entries.items c.args.id c.in-Err.at gap) in
    let room = subst (λ (l : Postings). (has c.args.id l ≡ true) ⊎ (length l < 128)) (sym c.self.view_is) c.requires.room in
    subst (λ l. IsChunk l c.max-self-inside.result c.max-most.result)
    (sym (put_whole_in_gap _ _ c.args.id c.args.wdf c.in-Err.at c.new-in-Err.result c.in_ok-insert-in-Err.ensures.items gap c.new-in-Err.ensures))
    (IsChunk-put_new _ _ _ c.args.id c.args.wdf _ _ c.self.invariant c.requires.id c.ranges.id.fits none (has_room _ _ room none) c.max-self-inside.ensures c.max-most.ensures)

pub returns-in-Ok-clause-ok : goal.returns-in-Ok-clause-ok
returns-in-Ok-clause-ok c =
    let here = subst (λ l. IsAt l c.args.id c.in-Ok.at) c.as_slice.ensures.value c.in-Ok.ensures.found in
    put_whole _ c.args.id c.args.wdf c.in-Ok.at c.replace-gone.new.dest c.self.invariant.sorted.rise here (c.replace-gone.ensures.after ∙ c.new.ensures)
    ∙ ap (put c.args.id c.args.wdf) c.self.view_is

pub returns-in_ok-insert-in-Err-clause-ok : goal.returns-in_ok-insert-in-Err-clause-ok
returns-in_ok-insert-in-Err-clause-ok c =
    let gap = subst (λ l. IsGapFor l c.args.id c.in-Err.at) c.as_slice.ensures.value c.in-Err.ensures.absent in
    put_whole_in_gap _ _ c.args.id c.args.wdf c.in-Err.at c.new-in-Err.result c.in_ok-insert-in-Err.ensures.items gap c.new-in-Err.ensures
    ∙ ap (put c.args.id c.args.wdf) c.self.view_is

pub returns-in_err-insert-in-Err-clause-succeeds : goal.returns-in_err-insert-in-Err-clause-succeeds
returns-in_err-insert-in-Err-clause-succeeds c there =
    let gap = subst (λ l. IsGapFor l c.args.id c.in-Err.at) (c.as_slice.ensures.value ∙ c.self.view_is) c.in-Err.ensures.absent in
    absurd (true≢false (sym there ∙ ap is_some (found_in_gap _ _ c.in-Err.at gap)))
