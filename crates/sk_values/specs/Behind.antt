-- What a cursor passes over that wants no value behind one.
use Rattle.std.specs.Prelude.{◌≡◌, ◌<◌, ◌≤◌, ◌+◌, ◌-◌, ◌^◌, ◌&&◌, ◌∷◌, ◌++◌, ℕ, nat_le, Bool, true, false, not, List, length, Option, if◌then◌else◌}
use Rattle.std.specs.List.{AllByRecursion}
use Rattle.std.specs.Ordering.{nat_cmp, is_le}
use Rattle.std.specs.Cmp.Lexicographic.{slice_cmp}
use Rattle.sk_values.specs.SlotValues.{SlotValues}
use Rattle.sk_model.specs.Ranges.{is_within}
use Rattle.sk_values.specs.Numbers.{IsNumber, IsBetween, IsLeast, IsGreatest}
use Rattle.sk_values.specs.declared.span.Span.{Span}
use Rattle.sk_values.specs.declared.edge.Spans.{Spans}

-- Whether a value comes behind another in the order of values: above it, and in reverse below it.
abbrev pub is_behind : Bool → List ℕ → List ℕ → Bool
is_behind reverse last v = not (is_le (if reverse then slice_cmp nat_cmp last v else slice_cmp nat_cmp v last))

-- Of some entries the first ones were passed over, so many, whose values all come behind the last one wanted; the others are left.
pub record Skips (reverse : Bool) (last : List ℕ) (count : ℕ) (old new : SlotValues) : Type 0 where
  pub passed : SlotValues
  pub is : old ≡ passed ++ new
  pub counted : count ≡ length passed
  pub behind : AllByRecursion (λ e. is_behind reverse last e.1 ≡ true) passed

-- The first entry was passed over, and so many behind it.
pub record SkipsOn (reverse : Bool) (last : List ℕ) (count : ℕ) (old new : SlotValues) : Type 0 where
  pub first : ℕ × List ℕ
  pub rest : SlotValues
  pub is : old ≡ first ∷ rest
  pub skips : Skips reverse last count rest new

-- The greatest number of a span.
abbrev pub greatest_in : Span → ℕ
greatest_in s = s.least + s.width

-- Whether the number lies in the span.
abbrev pub in_span : Span → ℕ → Bool
in_span s n = nat_le s.least n && nat_le n (greatest_in s)

-- The range has these numbers, and those of them that are not wanted come behind the edge.
pub record AreSpans (number : ℕ) (reverse : Bool) (lo hi : Option (List ℕ)) (s : Spans) : Type 0 where
  pub least : IsLeast lo s.range.least
  pub greatest : IsGreatest hi (greatest_in s.range)
  pub fits : greatest_in s.range < 2 ^ 64
  pub from : s.range.least ≤ s.wanted.least
  pub to : greatest_in s.wanted ≤ greatest_in s.range
  pub below : (n : ℕ) → s.range.least ≤ n → n < s.wanted.least → (reverse ≡ true) × (n < number)
  pub above : (n : ℕ) → n ≤ greatest_in s.range → greatest_in s.wanted < n → (reverse ≡ false) × (number < n)

-- The span has numbers that lie in the range and come behind the edge. So it has not all numbers.
pub record AreBehind (number : ℕ) (reverse : Bool) (lo hi : Option (List ℕ)) (s : Span) : Type 0 where
  pub inside : (v : List ℕ) → IsBetween s.least (greatest_in s) v → is_within lo hi v ≡ true
  pub behind : (last v : List ℕ) → IsNumber number last → IsBetween s.least (greatest_in s) v → is_behind reverse last v ≡ true
  pub fits : greatest_in s < 2 ^ 64
  pub few : s.width < 2 ^ 64 - 1
