use Rattle.sk_plain.proofs.FacetLemmas.{AreTalliedTo}
use Rattle.sk_plain.proofs.facets.count_values.Given as goal

-- the values so far are counted
abbrev pub invariant-values : goal.invariant-values
invariant-values l = AreTalliedTo l.values l.value-index l.facets.items
