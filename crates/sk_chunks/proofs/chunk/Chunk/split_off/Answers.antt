-- A front and the rest of a chunk are chunks, each with its own last id and greatest wdf.
use Rattle.std.proofs.Common.{arith, ap, subst, sym, ◌∙◌}
use Rattle.sk_sorted.specs.Entries.{top_id}
use Rattle.sk_chunks.specs.Postings.{greatest_wdf}
use Rattle.sk_chunks.specs.Chunks.{IsChunk}
use Rattle.sk_chunks.proofs.GreatestLaws.{greatest-take, greatest-drop}
use Rattle.sk_chunks.proofs.ChunkLemmas.{IsChunk-take, IsChunk-drop}
use Rattle.sk_chunks.proofs.chunk.Chunk.split_off.Goals as goal

pub greatest_of-requires : goal.greatest_of-requires
greatest_of-requires c =
    omega (arith, greatest-drop c.args.at c.self.inside.entries.items, c.self.invariant.greatest_is, ap greatest_wdf (c.as_slice-2.ensures.value ∙ c.in_ok-entries.ensures.tail))

pub greatest_of-self-inside-requires : goal.greatest_of-self-inside-requires
greatest_of-self-inside-requires c =
    omega (arith, greatest-take c.args.at c.self.inside.entries.items, c.self.invariant.greatest_is, ap greatest_wdf (c.as_slice-4.ensures.value ∙ c.in_ok-entries.ensures.items))

pub invariant_of-rest : goal.invariant_of-rest
invariant_of-rest c =
    let is = c.in_ok-entries.ensures.tail in
    subst (λ l. IsChunk l c.last_of.result c.greatest_of.result) (sym is)
    (IsChunk-drop _ _ _ c.args.at _ _ c.self.invariant
    (c.last_of.ensures ∙ ap (top_id 0) (c.as_slice.ensures.value ∙ is))
    (c.greatest_of.ensures ∙ ap greatest_wdf (c.as_slice-2.ensures.value ∙ is)))

pub invariant_of-self-2 : goal.invariant_of-self-2
invariant_of-self-2 c =
    let is = c.in_ok-entries.ensures.items in
    subst (λ l. IsChunk l c.last_of-self-inside.result c.greatest_of-self-inside.result) (sym is)
    (IsChunk-take _ _ _ c.args.at _ _ c.self.invariant
    (c.last_of-self-inside.ensures ∙ ap (top_id 0) (c.as_slice-3.ensures.value ∙ is))
    (c.greatest_of-self-inside.ensures ∙ ap greatest_wdf (c.as_slice-4.ensures.value ∙ is)))
