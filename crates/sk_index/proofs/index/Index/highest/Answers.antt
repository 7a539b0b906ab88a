-- No document has a term without a number.
use Rattle.std.proofs.Common.{ap, ◌∙◌}
use Rattle.sk_dict.specs.Terms.{number_of}
use Rattle.sk_terms.specs.Listed.{Listed}
use Rattle.sk_index.proofs.NumberLemmas.{all_numbered}
use Rattle.sk_index.proofs.index.Index.highest.Goals as goal

pub returns-clause-complete : goal.returns-clause-complete
returns-clause-complete c = λ t none.
    all_numbered c.term_lists-lists.result.now c.args.self.now.live.documents c.term_lists-lists.ensures.entries t (ap (λ (l : Listed). number_of t l.terms) c.term_lists-lists.ensures.value ∙ none)
