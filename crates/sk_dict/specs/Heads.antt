-- The first eight bytes of a term as a number.
use Rattle.std.specs.Prelude.{◌<◌, ◌+◌, ◌*◌, ℕ, zero, suc, List, drop, slice_index}

-- Each is a byte.
abbrev pub AreBytes : List ℕ → Type 0
AreBytes bs = (i : ℕ) → slice_index bs i < 256

-- A number with the first n bytes written behind it; a byte past the end counts as 0.
abbrev pub with_bytes : ℕ → ℕ → List ℕ → ℕ
with_bytes high zero bs = high
with_bytes high (suc n) bs = with_bytes (high * 256 + slice_index bs 0) n (drop 1 bs)

-- The first eight bytes, the first the highest.
unfoldable pub head_of : List ℕ → ℕ
head_of bs = with_bytes 0 8 bs
