-- The list is that of the documents.
use Rattle.std.proofs.Common.{ap, ◌∙◌}
use Rattle.sk_dict.specs.Terms.{term_at}
use Rattle.sk_terms.specs.Listed.{Listed}
use Rattle.sk_index.specs.Indexed.{postings}
use Rattle.sk_index.proofs.index.Index.list.Goals as goal

pub returns-clause-entries : goal.returns-clause-entries
returns-clause-entries c =
    let docs = c.args.self.now.live.documents in
    c.list.ensures.entries ∙ c.term_lists.ensures.entries (term_at c.term_lists.result.now.terms c.args.number)
    ∙ ap (λ (l : Listed). postings (term_at l.terms c.args.number) docs) c.term_lists.ensures.value
