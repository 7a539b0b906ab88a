-- A term that has a number is the number's, and one that has none has no list.
use Rattle.sk_terms.proofs.ListedLemmas.{found_by}
use Rattle.sk_terms.proofs.term_lists.TermLists.find.Goals as goal

pub returns-clause-found : goal.returns-clause-found
returns-clause-found c = rw (← c.self.view_is) (found_by _ c.args.term.now c.find.result c.find.ensures.value)
