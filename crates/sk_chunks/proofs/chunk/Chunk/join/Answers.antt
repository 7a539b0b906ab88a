-- Entries behind those of a chunk make one chunk with them, with the higher last id and the greater wdf.
use Rattle.std.proofs.Common.{◌≤◌, ◌+◌, length, sym, subst}
use Rattle.sk_sorted.specs.Entries.{RiseAbove, top_id}
use Rattle.sk_chunks.specs.Chunks.{IsChunk}
use Rattle.sk_chunks.specs.Postings.{Postings}
use Rattle.sk_chunks.proofs.ChunkLemmas.{IsChunk-append}
use Rattle.sk_chunks.proofs.chunk.Chunk.join.Goals as goal

pub invariant_of-self : goal.invariant_of-self
invariant_of-self c =
    subst (λ l. IsChunk l c.max-self-inside.result c.max-self-inside-2.result) (sym c.in-Ok.ensures.items)
    (IsChunk-append c.self.inside.entries.items c.next.inside.entries.items _ _ _ _ _ _ c.self.invariant c.next.invariant
    (subst (λ (l : Postings). RiseAbove (top_id 0 c.self.inside.entries.items) l) (sym c.next.view_is) (subst (λ (l : Postings). RiseAbove (top_id 0 l) c.args.next.now) (sym c.self.view_is) c.requires.rise))
    (subst (λ (l : Postings). length c.self.inside.entries.items + length l ≤ 128) (sym c.next.view_is) (subst (λ (l : Postings). length l + length c.args.next.now ≤ 128) (sym c.self.view_is) c.requires.few))
    c.max-self-inside.ensures c.max-self-inside-2.ensures)
