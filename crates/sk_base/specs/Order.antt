-- The order of byte strings, and of places.
use Rattle.std.specs.Prelude.{◌≡◌, ◌<◌, ℕ, List, AllPairs}
use Rattle.std.specs.Ordering.{nat_cmp}
use Rattle.std.specs.Cmp.Lexicographic.{slice_cmp}
use Rattle.std.specs.declared.cmp.Ordering.TheVariants.{Less}

-- The first byte string stands before the second: byte by byte, and a string before those that it begins.
abbrev pub Precedes : List ℕ → List ℕ → Type 0
Precedes a b = slice_cmp nat_cmp a b ≡ Less

-- The places of a term, strictly rising.
abbrev pub ArePositions : List ℕ → Type 0
ArePositions positions = AllPairs (λ p q. p < q) positions
