-- The walk over the terms gives all that the documents have.
use Rattle.std.proofs.Common.{subst}
use Rattle.sk_terms.specs.Listed.{Listed}
use Rattle.sk_index.specs.Indexed.{AreAllWith}
use Rattle.sk_index.proofs.AllWithLemmas.{all_with}
use Rattle.sk_index.proofs.index.Index.with_prefix.Goals as goal

pub returns : goal.returns
returns c =
    let docs = c.args.self.now.live.documents in
    let prefix = c.args.prefix.now in
    let found = c.in_ok-numbers.ensures in
    subst (λ (l : Listed). AreAllWith prefix l.terms docs c.in_ok-numbers.numbers.items) c.term_lists.ensures.value
    (all_with prefix c.term_lists.result.now docs c.in_ok-numbers.numbers.items found.sound c.term_lists.ensures.ordered c.term_lists.ensures.entries found.walk)
