-- The blocks of an order: lists of numbers, one behind the other.
use Rattle.std.specs.Prelude.{◌≡◌, ◌<◌, ◌≤◌, ◌+◌, ℕ, List, [], ◌∷◌, ◌++◌, length, take, drop, slice_index_or}
use Rattle.std.specs.List.{concat}

-- A block has at least one number, and at most 512.
pub record IsBlock (numbers : List ℕ) : Type 0 where
  pub some : 0 < length numbers
  pub bounded : length numbers ≤ 512

-- The numbers of a block.
abbrev pub in_block : List (List ℕ) → ℕ → List ℕ
in_block blocks b = slice_index_or blocks b []

-- What stands before a offset of a block.
abbrev pub front_of : List (List ℕ) → ℕ → ℕ → List ℕ
front_of blocks b offset = concat (take b blocks) ++ take offset (in_block blocks b)

-- What stands from there on.
abbrev pub rest_from : List (List ℕ) → ℕ → ℕ → List ℕ
rest_from blocks b offset = drop offset (in_block blocks b) ++ concat (drop (b + 1) blocks)

-- The number n is the first from the offset of the block b on, and the others stand from the offset c of the block a on.
pub record IsStep (blocks : List (List ℕ)) (b offset n a c : ℕ) : Type 0 where
  pub there : a < length blocks
  pub rest : rest_from blocks b offset ≡ n ∷ rest_from blocks a c

-- The block became two, and the others stayed.
pub record IsCutInTwo (old new : List (List ℕ)) (b half : ℕ) : Type 0 where
  pub longer : length new ≡ length old + 1
  pub before : take b new ≡ take b old
  pub lower : in_block new b ≡ take half (in_block old b)
  pub upper : in_block new (b + 1) ≡ drop half (in_block old b)
  pub after : drop (b + 1 + 1) new ≡ drop (b + 1) old

-- The offset c of the block a stands where the offset `offset` of the block b stood, and the block has room.
pub record HasRoom (old new : List (List ℕ)) (b offset a c : ℕ) : Type 0 where
  pub there : a < length new
  pub within : c ≤ length (in_block new a)
  pub room : length (in_block new a) < 512
  pub front : front_of new a c ≡ front_of old b offset
  pub rest : rest_from new a c ≡ rest_from old b offset
