-- What a collapser knows of the matches that it saw.
-- Source: Xapian's guide to collapsing; that each key keeps its best apart is own.
use Rattle.std.specs.Prelude.{◌≡◌, ◌≢◌, ◌<◌, ℕ, ◌-◌, ◌==◌, List, [], ◌∷◌, length, take, filter, bytes_eq, AllPairs, if◌then◌else◌}
use Rattle.sk_base.specs.declared.rank.Rank.{Rank}
use Rattle.sk_base.specs.declared.rank.Order.{Order}
use Rattle.sk_model.specs.Page.{best_first, kept_behind, count_key}

-- Of one key: the matches that are kept, the best first, and how many are dropped.
pub record Group : Type 0 where
  pub kept : List Rank
  pub dropped : ℕ

-- The order; how many of a key are kept at the most; how many matches were seen, and how many of them are kept; and the group of each key that is not empty.
pub record Collapsed : Type 0 where
  pub order : Order
  pub most : ℕ
  pub seen : ℕ
  pub kept : ℕ
  pub groups : List (List ℕ × Group)

-- The group of a key, without a match where none was seen.
abbrev pub group_of : List ℕ → List (List ℕ × Group) → Group
group_of k [] = record { kept = []; dropped = 0 }
group_of k (one ∷ more) = if bytes_eq one.0 k then one.1 else group_of k more

-- Of matches those that are kept, the best first.
abbrev pub kept_in : Order → ℕ → (Rank → List ℕ) → List Rank → List Rank
kept_in order most key ranks = kept_behind most key [] (best_first order ranks)

-- How many of this key are dropped, and none of the empty one.
abbrev pub dropped_in : Order → ℕ → (Rank → List ℕ) → List ℕ → List Rank → ℕ
dropped_in order most key k ranks = if length k == 0 then 0 else count_key key k ranks - count_key key k (kept_in order most key ranks)

-- It saw just these matches, each under its key: what it tells is what the definitions of kept and dropped say of them.
pub record Knows (c : Collapsed) (key : Rank → List ℕ) (ranks : List Rank) : Type 0 where
  pub differ : AllPairs (λ x y. x.id ≢ y.id) ranks
  pub seen : c.seen ≡ length ranks
  pub kept : c.kept ≡ length (kept_in c.order c.most key ranks)
  pub groups : (k : List ℕ) → 0 < length k → (group_of k c.groups).kept ≡ take c.most (filter (λ x. bytes_eq (key x) k) (best_first c.order ranks))
  pub dropped : (k : List ℕ) → (group_of k c.groups).dropped ≡ dropped_in c.order c.most key k ranks
