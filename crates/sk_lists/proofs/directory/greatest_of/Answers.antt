-- One chunk more, and the bound is reached.
use Rattle.std.proofs.Common.{max, ap, ◌∙◌, arith}
use Rattle.sk_sorted.specs.Runs.{flat}
use Rattle.sk_chunks.specs.Postings.{greatest_wdf}
use Rattle.sk_lists.proofs.DirectoryLemmas.{greatest_more}
use Rattle.sk_lists.proofs.directory.greatest_of.Goals as goal

pub chunks-preserved : goal.chunks-preserved
chunks-preserved c =
    greatest_more c.args.chunks.now c.chunks.chunk-index c.chunk-item.result c.chunks.most (greatest_wdf (flat c.args.chunks.now)) c.max-most.result (omega arith) c.chunk-item.is c.chunks.invariant
    (c.max-most.ensures ∙ ap (max c.chunks.most) c.greatest.ensures)

pub returns-then-most-bound : goal.returns-then-most-bound
returns-then-most-bound c =
    let more = greatest_more c.args.chunks.now c.chunks.chunk-index c.chunk-item.result c.chunks.most (greatest_wdf (flat c.args.chunks.now)) c.max-most.result (omega arith) c.chunk-item.is c.chunks.invariant
    (c.max-most.ensures ∙ ap (max c.chunks.most) c.greatest.ensures) in
    omega (arith, more, c.requires, c.if-most-bound.true)
