use Rattle.std.proofs.Common.{arith, length, ap, sym, subst}
use Rattle.sk_model.specs.Laws.{AreTallied}
use Rattle.sk_facets.specs.Tallied.{facets_in, AreFirst}
use Rattle.sk_facets.proofs.TallyLemmas.{few_counted}
use Rattle.sk_facets.proofs.tally.Tally.finish.Goals as goal

pub overflow_cast-distinct : goal.overflow_cast-distinct
overflow_cast-distinct c = omega (arith, few_counted c.args.self c.requires.tally, ap length c.in_ok-entries.ensures)

pub returns-clause-values : goal.returns-clause-values
returns-clause-values c values knows =
    subst (λ fs. AreFirst values c.args.size fs c.len-distinct.result) (sym c.from_vec.ensures)
    (subst (AreFirst values c.args.size c.in_ok-values.values.items) (omega (arith, c.len-distinct.ensures, c.in_ok-entries.entries.ok))
    (c.in_ok-values.ensures values (subst (λ es. AreTallied values (facets_in es)) (sym c.in_ok-entries.ensures) knows.counts)))
