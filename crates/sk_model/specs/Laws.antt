-- Words of laws, for the crates that prove by them.
use Rattle.std.specs.Prelude.{◌≡◌, ◌<◌, ◌≤◌, ℕ, ◌+◌, ◌&&◌, min, ◌==◌, nat_le, nat_lt, Bool, true, List, length, take, count_by, bytes_eq, All, Option, None, Some, if◌then◌else◌}
use Rattle.std.specs.List.{list_any, list_all}
use Rattle.std.specs.Ordering.{ordering_then, nat_cmp}
use Rattle.std.specs.declared.cmp.Ordering.{Ordering}
use Rattle.std.specs.Cmp.Lexicographic.{slice_cmp}
use Rattle.sk_base.specs.declared.facets.Facet.{Facet}
use Rattle.sk_base.specs.declared.rank.Rank.{Rank}
use Rattle.sk_model.specs.Facets.{times}

-- How many of so many matches of a key are kept: all of the empty key, and else no more than the most.
abbrev pub kept_number : ℕ → List ℕ → ℕ → ℕ
kept_number most k n = if length k == 0 then n else min most n

-- Of ordered matches of a key those that are kept: all of the empty key, and else the first, no more than the most.
abbrev pub kept_first : ℕ → List ℕ → List Rank → List Rank
kept_first most k ranks = if length k == 0 then ranks else take most ranks

-- The score of exactly one of two.
abbrev pub one_of : Option ℕ → Option ℕ → Option ℕ
one_of None b = b
one_of (Some v) None = Some v
one_of (Some v) (Some w) = None

-- Each operand has a position at this one or behind it, by less than the window.
abbrev pub stand_within : ℕ → ℕ → List (List ℕ) → Bool
stand_within window p places = list_all (λ positions. list_any (λ q. nat_le p q && nat_lt q (p + window)) positions) places

-- Each of these values that is not empty, once, with how many of them it is, in any order.
pub record AreTallied (values : List (List ℕ)) (facets : List Facet) : Type 0 where
  pub counts : All (λ f. (0 < length f.value) × (0 < f.count) × (f.count ≡ times f.value values)) facets
  pub whole : (v : List ℕ) → 0 < length v → 0 < times v values → list_any (λ f. bytes_eq f.value v) facets ≡ true
  pub once : (v : List ℕ) → count_by (λ f. bytes_eq f.value v) facets ≤ 1

-- How two values with their counts are ordered: the greater count first, then the lesser value.
abbrev pub facet_cmp : Facet → Facet → Ordering
facet_cmp f g = ordering_then (nat_cmp g.count f.count) (slice_cmp nat_cmp f.value g.value)
