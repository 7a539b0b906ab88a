-- What was added up, and what is sum_behind, is the whole.
use Rattle.sk_terms.specs.Listed.{list_of}
use Rattle.sk_terms.specs.Wild.{figure_of, sum_behind}
use Rattle.sk_terms.proofs.WalkLemmas.{SumSoFar}
use Rattle.sk_terms.proofs.term_lists.TermLists.sum.Given as goal

abbrev pub invariant-walk : goal.invariant-walk
invariant-walk l = SumSoFar (λ t. figure_of l.figure (list_of t l.self)) l.self.terms l.prefix l.most l.total l.after

abbrev pub decreases-walk : goal.decreases-walk
decreases-walk l = sum_behind (λ t. 1) l.self.terms l.prefix l.after
