-- When the positions of two terms are apart.
use Rattle.std.specs.Prelude.{ℕ, ◌+◌, ◌<◌, ◌≤◌, List, length, slice_index}

-- No position of the second list stands behind one of the first by less than the width.
abbrev pub AreApart : ℕ → List ℕ → List ℕ → Type 0
AreApart width first second = (i j : ℕ) → i < length first → j < length second → slice_index first i < slice_index second j → slice_index first i + width ≤ slice_index second j
