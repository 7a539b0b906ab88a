-- The order of matches, those that are kept, and the asked page of them.
-- Source: Xapian's API documentation (`Enquire::set_collapse_key`, the orders of `Enquire`, `first` and `maxitems` of `get_mset`) and its guide to collapsing.
use Rattle.std.specs.Prelude.{ℕ, ◌-◌, ◌||◌, ◌==◌, nat_lt, Bool, List, [], ◌∷◌, take, drop, length, count_by, bytes_eq, Option, Some, None, if◌then◌else◌}
use Rattle.sk_base.specs.declared.find.Collapse.{Collapse}
use Rattle.sk_base.specs.declared.rank.Rank.{Rank}
use Rattle.sk_base.specs.declared.rank.Order.{Order}
use Rattle.sk_base.specs.Before.{is_before}
use Rattle.sk_model.specs.Ordered.{placed_by, ordered_by}

-- The ordered list with one match more, in its place.
abbrev pub place : Order → Rank → List Rank → List Rank
place order x ranks = placed_by (is_before order) x ranks

-- The list in order, the best first.
abbrev pub best_first : Order → List Rank → List Rank
best_first order ranks = ordered_by (is_before order) ranks

-- A match is kept where its key is empty, or where fewer than the most of its key were kept before it.
abbrev pub is_kept : ℕ → List ℕ → List (List ℕ) → Bool
is_kept most key before = length key == 0 || nat_lt (count_by (bytes_eq key) before) most

-- The matches that are kept, where those of these keys were kept before them.
abbrev pub kept_behind : ℕ → (Rank → List ℕ) → List (List ℕ) → List Rank → List Rank
kept_behind most key before [] = []
kept_behind most key before (x ∷ xs) =
    if is_kept most (key x) before then x ∷ kept_behind most key (key x ∷ before) xs else kept_behind most key before xs

-- Of the ordered matches those that are kept. Without collapsing all are.
abbrev pub kept_of : Option Collapse → (Rank → List ℕ) → List Rank → List Rank
kept_of None key ranks = ranks
kept_of (Some collapse) key ranks = kept_behind collapse.max key [] ranks

-- Of the matches the kept ones, the best first: they are walked from the best.
abbrev pub kept : Order → Option Collapse → (Rank → List ℕ) → List Rank → List Rank
kept order collapse key ranks = kept_of collapse key (best_first order ranks)

-- How many matches have this key.
abbrev pub count_key : (Rank → List ℕ) → List ℕ → List Rank → ℕ
count_key key k ranks = count_by (λ x. bytes_eq (key x) k) ranks

-- How many matches of this key are not kept, and none of the empty key.
abbrev pub dropped : Order → Option Collapse → (Rank → List ℕ) → List ℕ → List Rank → ℕ
dropped order collapse key k ranks = if length k == 0 then 0 else count_key key k ranks - count_key key k (kept order collapse key ranks)

-- The page: the kept ones without the first `first`, and of the rest at most `size`.
abbrev pub slice : ℕ → ℕ → List Rank → List Rank
slice first size ranks = take size (drop first ranks)
