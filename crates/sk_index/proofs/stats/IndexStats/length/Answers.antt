-- The list of the term has an entry for each document that has it.
use Rattle.std.proofs.Common.{ap, ◌∙◌, length}
use Rattle.sk_index.proofs.NumberLemmas.{length-postings}
use Rattle.sk_index.proofs.stats.IndexStats.length.Goals as goal

pub returns : goal.returns
returns c = c.figure.ensures ∙ ap length (c.term_lists.ensures.entries c.args.term.now) ∙ length-postings c.args.term.now c.args.self.now.live.documents
