use Rattle.std.proofs.Common.{◌≡◌, ◌≤◌, ◌<◌, ℕ, max, drop, unwrap_or, List}
use Rattle.sk_base.specs.declared.find.Scheme.{Scheme}
use Rattle.sk_query.specs.Trees as Query
use Rattle.sk_sorted.specs.Joined.{give_at}
use Rattle.sk_index.specs.Indexed.{Indexed}
use Rattle.sk_shards.specs.Forests.{AreBuilt, ceiling_in, gives_of}
use Rattle.sk_shards.proofs.forest.ceiling_of.Given as goal

-- the greatest so far, and that of the trees that are left; no tree so far gives more
abbrev pub invariant-trees : goal.invariant-trees
invariant-trees l =
    (max l.greatest (ceiling_in (drop l.tree-index l.trees)) ≡ ceiling_in l.trees)
    × ((indexes : List Indexed) (query : Query.Tree) (scheme : Scheme) → AreBuilt indexes l.trees query scheme → (q : ℕ) → q < l.tree-index → (own : ℕ) → unwrap_or (give_at (gives_of indexes l.trees) q own) 0 ≤ l.greatest)
