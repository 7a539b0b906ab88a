-- Which values lie in a range.
-- Source: Xapian's API documentation (`OP_VALUE_RANGE`, `OP_VALUE_GE`, `OP_VALUE_LE`). That a range open at both ends matches where there is a value is own.
use Rattle.std.specs.Prelude.{ℕ, ◌&&◌, nat_lt, not, Bool, true, false, List, length, Option, Some, None}
use Rattle.std.specs.Ordering.{nat_cmp, is_le}
use Rattle.std.specs.Cmp.Lexicographic.{slice_cmp}
use Rattle.std.specs.Int.{to_be_bytes, w64}
use Rattle.sk_query.specs.Trees.{Limit, unbounded, number, bytes}

-- The bytes of an end: none of an open end, and of a number its eight.
abbrev pub end_of : Limit → Option (List ℕ)
end_of unbounded = None
end_of (number n) = Some (to_be_bytes w64 n)
end_of (bytes b) = Some b

-- The value is not below this end, byte by byte. An open end always holds.
abbrev pub is_from : Option (List ℕ) → List ℕ → Bool
is_from None v = true
is_from (Some lo) v = is_le (slice_cmp nat_cmp lo v)

-- The value is not above this end.
abbrev pub is_to : Option (List ℕ) → List ℕ → Bool
is_to None v = true
is_to (Some hi) v = is_le (slice_cmp nat_cmp v hi)

-- There is a value, and it lies between the two ends.
abbrev pub is_within : Option (List ℕ) → Option (List ℕ) → List ℕ → Bool
is_within lo hi v = nat_lt 0 (length v) && (is_from lo v && is_to hi v)

-- The lower end is above the upper one: no value lies between them.
abbrev pub is_crossed : Option (List ℕ) → Option (List ℕ) → Bool
is_crossed lo None = false
is_crossed lo (Some hi) = not (is_from lo hi)
