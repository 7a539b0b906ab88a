use Rattle.std.proofs.Common.{ap, ◌++◌, ◌∙◌, map, arith}
use Rattle.sk_chunks.specs.Postings.{Postings}
use Rattle.example_index.specs.Example.{hit_of}
use Rattle.example_index.proofs.HitLemmas.{hits_more}
use Rattle.example_index.proofs.hits_of.Goals as goal

-- the hits of the chunks up to this one, and its own
pub chunks-preserved : goal.chunks-preserved
chunks-preserved g c =
    hits_more c.args.list.now c.chunks.at c.chunks.hits.items c.in_ok-hits.hits.items (omega (arith, c.chunks-test.true, c.chunks-at-end.ensures.value))
    c.chunks.invariant (c.in_ok-hits.ensures ∙ ap (λ (ps : Postings). c.chunks.hits.items ++ map hit_of ps) c.chunk.ensures)
