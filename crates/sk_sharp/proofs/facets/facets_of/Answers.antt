use Rattle.std.proofs.Common.{rules, subst}
use Rattle.sk_query.specs.Trees.{query_view}
use Rattle.sk_model.specs.Facets.{AreCounted}
use Rattle.sk_sharp.proofs.FacetLemmas.{told}
use Rattle.sk_sharp.proofs.facets.facets_of.Goals as goal

pub returns-clause-facets : goal.returns-clause-facets
returns-clause-facets c =
    told (query_view c.args.query.now) c.args.slot c.args.size c.args.docs.now.entries c.in_ok-values.values.items c.in_ok-facets.facets.items _
    c.in_ok-values.ensures.all (subst (λ vs. AreCounted vs c.in_ok-facets.facets.items) c.as_slice.ensures.value c.in_ok-facets.ensures.counted)
    (search rules) (search rules) (search rules) (search rules) (search rules)
