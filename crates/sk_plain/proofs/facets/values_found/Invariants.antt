use Rattle.std.proofs.Common.{◌≡◌, ◌++◌, All}
use Rattle.sk_query.specs.Trees.{query_view}
use Rattle.sk_model.specs.Facets.{values_found}
use Rattle.sk_base.specs.Loads.{IsLight}
use Rattle.sk_plain.proofs.facets.values_found.Given as goal

-- the values so far, and those of the documents that are left, are all
abbrev pub invariant-docs : goal.invariant-docs
invariant-docs l =
    (l.values.items ++ values_found (query_view l.query) l.slot l.doc-iterator ≡ values_found (query_view l.query) l.slot l.docs.entries)
    × All IsLight l.doc-iterator
