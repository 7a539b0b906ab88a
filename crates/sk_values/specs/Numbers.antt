-- Numbers in place of strings of eight bytes, in a range between two ends.
use Rattle.std.specs.Prelude.{◌≡◌, ◌<◌, ◌≤◌, ◌^◌, ℕ, nat_le, List, length, get_or, Option}
use Rattle.std.specs.Slice.Scan.{big_endian}
use Rattle.sk_model.specs.Ranges.{is_from, is_to}

-- The two ends of a range, each of which may be open.
pub record Ends : Type 0 where
  pub lo : Option (List ℕ)
  pub hi : Option (List ℕ)

-- The eight bytes of a number, the highest of them first.
pub record IsNumber (n : ℕ) (v : List ℕ) : Type 0 where
  pub eight : length v ≡ 8
  pub bytes : (k : ℕ) → get_or v k 0 < 256
  pub spells : n ≡ big_endian 0 v
  pub fits : n < 2 ^ 64

-- The value is a number, and lies between two.
pub record IsBetween (least greatest : ℕ) (v : List ℕ) : Type 0 where
  pub number : ℕ
  pub is : IsNumber number v
  pub from : least ≤ number
  pub to : number ≤ greatest

-- Not below this end are the numbers from the least on.
abbrev pub IsLeast : Option (List ℕ) → ℕ → Type 0
IsLeast lo least = (n : ℕ) (v : List ℕ) → IsNumber n v → is_from lo v ≡ nat_le least n

-- Not above this end are the numbers up to the greatest.
abbrev pub IsGreatest : Option (List ℕ) → ℕ → Type 0
IsGreatest hi greatest = (n : ℕ) (v : List ℕ) → IsNumber n v → is_to hi v ≡ nat_le n greatest
