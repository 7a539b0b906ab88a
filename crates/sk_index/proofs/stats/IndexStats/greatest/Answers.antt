-- The greatest wdf in the list of the term is that in the documents.
use Rattle.std.proofs.Common.{ap, ◌∙◌}
use Rattle.sk_chunks.specs.Postings.{greatest_wdf}
use Rattle.sk_index.proofs.NumberLemmas.{greatest-postings}
use Rattle.sk_index.proofs.stats.IndexStats.greatest.Goals as goal

pub returns : goal.returns
returns c = c.figure.ensures ∙ ap greatest_wdf (c.term_lists.ensures.entries c.args.term.now) ∙ greatest-postings c.args.term.now c.args.self.now.live.documents
