use Rattle.std.proofs.Common.{◌≤◌, ◌<◌, ◌⊎◌, inl, inr, ℕ, length, unwrap_or, List, ap, arith, below_more}
use Rattle.std.proofs.lemmas.Bool.{cases_lt}
use Rattle.std.proofs.lemmas.List.{drop_more}
use Rattle.sk_sorted.specs.Joined.{give_at, part_of, own_id}
use Rattle.sk_index.specs.Indexed.{Indexed}
use Rattle.sk_tree.specs.declared.tree.Tree.{Tree}
use Rattle.sk_shards.specs.Forests.{ceiling_in, gives_of}
use Rattle.sk_shards.proofs.ForestLemmas.{gives_within, gives_beyond}
use Rattle.sk_shards.proofs.forest.ceiling_of.Goals as goal

pub trees-preserved : goal.trees-preserved
trees-preserved c =
    let l : c.trees.tree-index < length c.args.trees.now = omega arith in
    let more = ap ceiling_in (drop_more c.args.trees.now c.trees.tree-index c.tree-item.result l) in
    let is = ap (λ (t : Tree). t.top.greatest) c.tree-item.is in (
      omega (arith, more, is, c.trees.invariant.0, c.ceiling.ensures.value, c.max-greatest.ensures),
      λ indexes query scheme built. below_more (λ q. (own : ℕ) → unwrap_or (give_at (gives_of indexes c.args.trees.now) q own) 0 ≤ c.max-greatest.result) c.trees.tree-index
          (λ q l own. let before = c.trees.invariant.1 indexes query scheme built q l own in omega (arith, before, c.max-greatest.ensures))
          (λ own. let here = gives_within indexes c.args.trees.now query scheme c.trees.tree-index c.tree-item.result c.ceiling.result built l c.tree-item.is c.ceiling.ensures.bound own in omega (arith, here, c.max-greatest.ensures)),
    )

-- what holds of the trees holds of any part
anywhere : (indexes : List Indexed) (trees : List Tree) (q own high : ℕ) → ((q : ℕ) → q < length trees → (own : ℕ) → unwrap_or (give_at (gives_of indexes trees) q own) 0 ≤ high) → unwrap_or (give_at (gives_of indexes trees) q own) 0 ≤ high
anywhere indexes trees q own high each = by_part (cases_lt q (length trees))
  where
    by_part : (q < length trees) ⊎ (length trees ≤ q) → unwrap_or (give_at (gives_of indexes trees) q own) 0 ≤ high
    by_part (inl l) = each q l own
    by_part (inr le) = let none = gives_beyond indexes trees q own le in omega (arith, none)

pub returns-clause-bound : goal.returns-clause-bound
returns-clause-bound c indexes query scheme built id =
    anywhere indexes c.args.trees.now (part_of (length indexes) id) (own_id (length indexes) id) c.trees.greatest
    (λ q l own. c.trees.invariant.1 indexes query scheme built q (omega (arith, l)) own)
