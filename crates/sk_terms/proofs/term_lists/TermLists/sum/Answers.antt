-- The next term's number is added, and less is sum_behind.
use Rattle.std.proofs.Common.{ap, ◌∙◌}
use Rattle.sk_terms.specs.Listed.{list_of}
use Rattle.sk_terms.specs.Wild.{figure_of}
use Rattle.sk_terms.proofs.WalkLemmas.{sum_more, sum_ends, sum_shrinks}
use Rattle.sk_terms.proofs.term_lists.TermLists.sum.Goals as goal

pub returns-in_default-clause-value : goal.returns-in_default-clause-value
returns-in_default-clause-value c = sum_ends (λ t. figure_of c.args.figure (list_of t c.args.self.now)) c.args.self.now.terms c.args.prefix.now c.args.most c.walk.total c.walk.after c.walk.invariant c.in_default.ensures.next

pub walk-smaller : goal.walk-smaller
walk-smaller c = sum_shrinks c.args.self.now.terms c.args.prefix.now c.walk.after c.in-Some.number c.next.ensures.sound.different c.in-Some.ensures.next

pub walk-preserved : goal.walk-preserved
walk-preserved c =
    rw c.capped-total.ensures (sum_more (λ t. figure_of c.args.figure (list_of t c.args.self.now)) c.args.self.now.terms c.args.prefix.now c.args.most c.walk.total c.figure_of.result c.walk.after c.in-Some.number c.next.ensures.sound.different c.walk.invariant c.in-Some.ensures.next
    (c.figure_of.ensures ∙ ap (figure_of c.args.figure) c.list.ensures.entries))
