use Rattle.std.proofs.Common.{◌≡◌, ◌++◌, drop, string_bytes}
use Rattle.sk_run.specs.Facets.{facet_lines, facets_text}
use Rattle.sk_run.proofs.facets.facets_lines.Given as goal

abbrev pub invariant-values : goal.invariant-values
invariant-values l = string_bytes l.text ++ facet_lines l.kind (drop l.facet-index l.facets.values) ≡ facets_text l.kind l.facets
