-- The groups that a collapser holds, as the matches that it knows of each key.
use Rattle.std.specs.Prelude.{◌≡◌, ◌≤◌, ◌+◌, ℕ, List, map, length, take, drop, All}
use Rattle.std.specs.Global.{Global}
use Rattle.std.specs.declared.vec.Vec.{Vec}
use Rattle.sk_base.specs.declared.rank.Rank.{Rank}
use Rattle.sk_base.specs.declared.rank.Order.{Order}
use Rattle.sk_heap.specs.Held.{ranks_of}
use Rattle.sk_model.specs.Page.{place}
use Rattle.sk_collapse.specs.Collapsed.{Group}
use Rattle.sk_collapse.specs.declared.group.KeyGroup.{KeyGroup}

-- A group as its kept matches and the count of the others.
abbrev pub group_in : KeyGroup → Group
group_in group = record { kept = ranks_of group.best.hits; dropped = group.dropped }

-- The entries of the map as groups by key.
abbrev pub groups_of : List (Vec ℕ Global × KeyGroup) → List (List ℕ × Group)
groups_of entries = map (λ entry. (entry.0.items, group_in entry.1)) entries

-- What falls out of the best so many when a match comes to them.
abbrev pub fallen : Order → ℕ → Rank → List Rank → List Rank
fallen order most x kept = drop most (place order x kept)

-- The group with one match more: the best so many are kept, and what falls out is counted.
abbrev pub group_with : Order → ℕ → Rank → Group → Group
group_with order most x group =
    record { kept = take most (place order x group.kept); dropped = group.dropped + length (fallen order most x group.kept) }

-- The groups are all in this order, hold no more than this, and dropped no more than so many.
abbrev pub AreAlike : Order → ℕ → ℕ → List KeyGroup → Type 0
AreAlike order most seen groups = All (λ group. (group.best.order ≡ order) × (group.best.most ≡ most) × (group.dropped ≤ seen)) groups
