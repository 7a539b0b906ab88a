use Rattle.std.proofs.Common.{◌≡◌, ◌++◌, All}
use Rattle.sk_query.specs.Trees.{query_view}
use Rattle.sk_model.specs.Matches.{matches}
use Rattle.sk_base.specs.Loads.{IsLight}
use Rattle.sk_plain.proofs.found.matches.Given as goal

-- the matches so far, and those of the documents that are left, are all
abbrev pub invariant-docs : goal.invariant-docs
invariant-docs l =
    (l.ranks.items ++ matches (query_view l.query) l.scheme l.order l.id-iterator ≡ matches (query_view l.query) l.scheme l.order l.docs.entries)
    × All IsLight l.id-iterator
