-- Where the list of a term is empty, no document has it.
use Rattle.std.proofs.Common.{MatchOption, length, false, subst, ◌≡◌, ◌<◌}
use Rattle.sk_base.specs.Numbers.{some_has}
use Rattle.sk_dict.specs.Terms.{term_at}
use Rattle.sk_terms.specs.Listed.{Listed}
use Rattle.sk_index.proofs.NumberLemmas.{found_in}
use Rattle.sk_index.proofs.index.Index.number_of.Goals as goal

pub returns-clause-found : goal.returns-clause-found
returns-clause-found c =
    let docs = c.args.self.now.live.documents in
    let term = c.args.term.now in
    subst (λ (l : Listed). MatchOption c.find.result (some_has term docs ≡ false) (λ n. (n < length l.terms) × (term_at l.terms n ≡ term))) c.term_lists.ensures.value
    (found_in term docs _ _ c.find.result (c.term_lists.ensures.entries term) c.find.ensures.found)
