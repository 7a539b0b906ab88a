-- The entry goes into its gap; the front and the rest are chunks, and without memory it is taken out again.
use Rattle.std.proofs.Common.{◌≡◌, ◌≤◌, length, is_some, take, drop, sym, ap, subst, ◌∙◌}
use mathlib.Core.Bool.{true≢false}
use Rattle.std.specs.List.{remove}
use Rattle.sk_sorted.specs.Entries.{put, top_id}
use Rattle.sk_sorted.specs.Places.{IsAt, IsGapFor}
use Rattle.sk_sorted.proofs.PlaceLaws.{found_in_gap, found_at}
use Rattle.sk_sorted.proofs.EndLaws.{put_whole_in_gap}
use Rattle.sk_chunks.specs.Postings.{Postings, greatest_wdf}
use Rattle.sk_chunks.specs.Chunks.{IsChunk}
use Rattle.sk_chunks.proofs.ChunkLemmas.{remove_inserted, front_within, rest_within, IsChunk-front, IsChunk-rest}
use Rattle.sk_chunks.proofs.chunk.Chunk.insert_and_split.Goals as goal

pub unreachable-requires : goal.unreachable-requires
unreachable-requires c =
    let here = subst (λ l. IsAt l c.args.id c.in-Ok.field-0) (c.as_slice.ensures.value ∙ c.self.view_is) c.in-Ok.ensures.found in
    let sorted = subst (λ (l : Postings). IsChunk l c.self.inside.last c.self.inside.greatest) c.self.view_is c.self.invariant in
    true≢false (sym (ap is_some (found_at 0 c.args.self.now c.args.id c.in-Ok.field-0 (0, 0) sorted.sorted.rise here)) ∙ c.requires.new)

pub invariant_of-self-in-Err-split_off : goal.invariant_of-self-in-Err-split_off
invariant_of-self-in-Err-split_off c =
    let gap = subst (λ l. IsGapFor l c.args.id c.in-Err.place) c.as_slice.ensures.value c.in-Err.ensures.absent in
    let mid : c.split_off.new.self.items ≡ c.insert.new.self.items = ap (λ v. v.items) c.in-Err-split_off.ensures.err in
    let back = c.remove.ensures.items ∙ ap (λ (l : Postings). remove l c.in-Err.place) (mid ∙ c.in_ok-insert.ensures.items) ∙ remove_inserted c.self.inside.entries.items c.in-Err.place c.new.result gap.in_range in
    subst (λ (l : Postings). IsChunk l c.self.inside.last c.self.inside.greatest) (sym back) c.self.invariant

pub greatest_of-requires : goal.greatest_of-requires
greatest_of-requires c =
    let gap = subst (λ l. IsGapFor l c.args.id c.in-Err.place) c.as_slice.ensures.value c.in-Err.ensures.absent in
    let none = sym (found_in_gap c.self.inside.entries.items c.args.id c.in-Err.place gap) in
    rest_within c.self.inside.entries.items c.insert.new.self.items _ _ c.args.id c.args.wdf c.args.at c.self.invariant
    (put_whole_in_gap _ _ c.args.id c.args.wdf c.in-Err.place c.new.result c.in_ok-insert.ensures.items gap c.new.ensures) none c.requires.at.0
    (subst (λ (l : Postings). c.args.at ≤ length l) (sym c.self.view_is) c.requires.at.1)
    c.as_slice-3.result.now c.max-most.result (c.as_slice-3.ensures.value ∙ c.in-Ok-split_off.ensures.tail) c.max-most.ensures

pub greatest_of-self-inside-requires : goal.greatest_of-self-inside-requires
greatest_of-self-inside-requires c =
    let gap = subst (λ l. IsGapFor l c.args.id c.in-Err.place) c.as_slice.ensures.value c.in-Err.ensures.absent in
    let none = sym (found_in_gap c.self.inside.entries.items c.args.id c.in-Err.place gap) in
    front_within c.self.inside.entries.items c.insert.new.self.items _ _ c.args.id c.args.wdf c.args.at c.self.invariant
    (put_whole_in_gap _ _ c.args.id c.args.wdf c.in-Err.place c.new.result c.in_ok-insert.ensures.items gap c.new.ensures) none c.requires.at.0
    (subst (λ (l : Postings). c.args.at ≤ length l) (sym c.self.view_is) c.requires.at.1)
    c.as_slice-5.result.now c.max-most.result (c.as_slice-5.ensures.value ∙ c.in-Ok-split_off.ensures.items) c.max-most.ensures

pub invariant_of-rest : goal.invariant_of-rest
invariant_of-rest c =
    let gap = subst (λ l. IsGapFor l c.args.id c.in-Err.place) c.as_slice.ensures.value c.in-Err.ensures.absent in
    let none = sym (found_in_gap c.self.inside.entries.items c.args.id c.in-Err.place gap) in
    IsChunk-rest c.self.inside.entries.items c.insert.new.self.items _ _ c.args.id c.args.wdf c.args.at c.self.invariant
    (put_whole_in_gap _ _ c.args.id c.args.wdf c.in-Err.place c.new.result c.in_ok-insert.ensures.items gap c.new.ensures) none c.requires.at.0
    (subst (λ (l : Postings). c.args.at ≤ length l) (sym c.self.view_is) c.requires.at.1)
    c.requires.id c.ranges.id.fits c.in-Ok-split_off.entries.items c.last_of.result c.greatest_of.result c.in-Ok-split_off.ensures.tail
    (c.last_of.ensures ∙ ap (top_id 0) c.as_slice-2.ensures.value)
    (c.greatest_of.ensures ∙ ap greatest_wdf c.as_slice-3.ensures.value)

pub invariant_of-self-2 : goal.invariant_of-self-2
invariant_of-self-2 c =
    let gap = subst (λ l. IsGapFor l c.args.id c.in-Err.place) c.as_slice.ensures.value c.in-Err.ensures.absent in
    let none = sym (found_in_gap c.self.inside.entries.items c.args.id c.in-Err.place gap) in
    IsChunk-front c.self.inside.entries.items c.insert.new.self.items _ _ c.args.id c.args.wdf c.args.at c.self.invariant
    (put_whole_in_gap _ _ c.args.id c.args.wdf c.in-Err.place c.new.result c.in_ok-insert.ensures.items gap c.new.ensures) none c.requires.at.0
    (subst (λ (l : Postings). c.args.at ≤ length l) (sym c.self.view_is) c.requires.at.1)
    c.requires.id c.ranges.id.fits c.split_off.new.self.items c.last_of-self-inside.result c.greatest_of-self-inside.result c.in-Ok-split_off.ensures.items
    (c.last_of-self-inside.ensures ∙ ap (top_id 0) c.as_slice-4.ensures.value)
    (c.greatest_of-self-inside.ensures ∙ ap greatest_wdf c.as_slice-5.ensures.value)

pub returns-clause-ok : goal.returns-clause-ok
returns-clause-ok c =
    let gap = subst (λ l. IsGapFor l c.args.id c.in-Err.place) c.as_slice.ensures.value c.in-Err.ensures.absent in
    c.in-Ok-split_off.ensures.items
    ∙ ap (take c.args.at) (put_whole_in_gap _ _ c.args.id c.args.wdf c.in-Err.place c.new.result c.in_ok-insert.ensures.items gap c.new.ensures ∙ ap (put c.args.id c.args.wdf) c.self.view_is)

pub returns-clause-rest : goal.returns-clause-rest
returns-clause-rest c =
    let gap = subst (λ l. IsGapFor l c.args.id c.in-Err.place) c.as_slice.ensures.value c.in-Err.ensures.absent in
    c.in-Ok-split_off.ensures.tail
    ∙ ap (drop c.args.at) (put_whole_in_gap _ _ c.args.id c.args.wdf c.in-Err.place c.new.result c.in_ok-insert.ensures.items gap c.new.ensures ∙ ap (put c.args.id c.args.wdf) c.self.view_is)
