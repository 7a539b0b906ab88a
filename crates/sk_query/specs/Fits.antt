-- Which query trees fit.
use Rattle.std.specs.Prelude.{ℕ, ◌+◌, ◌*◌, ◌&&◌, max, nat_le, nat_lt, not, Bool, true, false, if◌then◌else◌, List, [], ◌∷◌, length, Option, Some, None, bytes_eq}
use Rattle.std.specs.List.{list_all, list_any}
use Rattle.sk_base.specs.Terms.{is_given}
use Rattle.sk_query.specs.Trees.{Tree, nothing, all, term, wildcard, parts, near, phrase, synonym, scale, range, Trees, no_trees, tree}

-- At least one string, and none empty.
abbrev pub are_given : List (List ℕ) → Bool
are_given texts = nat_lt 0 (length texts) && list_all is_given texts

-- No string stands twice.
abbrev pub are_different : List (List ℕ) → Bool
are_different [] = true
are_different (text ∷ more) = not (list_any (λ other. bytes_eq text other) more) && are_different more

-- A window is 1 to 1,048,576.
abbrev pub is_window : ℕ → Bool
is_window w = nat_le 1 w && nat_le w 1048576

-- A factor, and the product of those from the root down, is at most 65,536.
abbrev pub is_factor : ℕ → Bool
is_factor f = nat_le f 65536

-- A slot is at most 255.
abbrev pub is_slot : ℕ → Bool
is_slot s = nat_le s 255

-- At least one part.
abbrev pub has_parts : Trees → Bool
has_parts no_trees = false
has_parts (tree t ts) = true

abbrev mutual
  -- How many leaves there are: a term, a wildcard, a range and each string of near, phrase and synonym count one.
  pub leaves_of : Tree → ℕ
  leaves_of nothing = 0
  leaves_of all = 0
  leaves_of (term t) = 1
  leaves_of (wildcard prefix) = 1
  leaves_of (parts form ts) = leaves_in ts
  leaves_of (near w texts) = length texts
  leaves_of (phrase w texts) = length texts
  leaves_of (synonym texts) = length texts
  leaves_of (scale f t) = leaves_of t
  leaves_of (range slot lo hi) = 1

  pub leaves_in : Trees → ℕ
  leaves_in no_trees = 0
  leaves_in (tree t ts) = leaves_of t + leaves_in ts

abbrev mutual
  -- How many queries stand one inside another, the root and the innermost counted.
  pub depth_of : Tree → ℕ
  depth_of nothing = 1
  depth_of all = 1
  depth_of (term t) = 1
  depth_of (wildcard prefix) = 1
  depth_of (parts form ts) = 1 + depth_in ts
  depth_of (near w texts) = 1
  depth_of (phrase w texts) = 1
  depth_of (synonym texts) = 1
  depth_of (scale f t) = 1 + depth_of t
  depth_of (range slot lo hi) = 1

  pub depth_in : Trees → ℕ
  depth_in no_trees = 0
  depth_in (tree t ts) = max (depth_of t) (depth_in ts)

abbrev mutual
  -- Each query in it keeps its conditions, where the product of the factors above is this.
  pub is_sound : ℕ → Tree → Bool
  is_sound above nothing = true
  is_sound above all = true
  is_sound above (term t) = is_given t
  is_sound above (wildcard prefix) = is_given prefix
  is_sound above (parts form ts) = has_parts ts && are_sound above ts
  is_sound above (near w texts) = is_window w && are_given texts
  is_sound above (phrase w texts) = is_window w && are_given texts
  is_sound above (synonym texts) = are_given texts && are_different texts
  is_sound above (scale f t) = is_factor f && is_factor (above * f) && is_sound (above * f) t
  is_sound above (range slot lo hi) = is_slot slot

  pub are_sound : ℕ → Trees → Bool
  are_sound above no_trees = true
  are_sound above (tree t ts) = is_sound above t && are_sound above ts

-- A tree fits: each query in it keeps its conditions, there are at most 1,024 leaves, and at most 1,000 queries stand one inside another.
abbrev pub fits_tree : Tree → Bool
fits_tree t = is_sound 1 t && nat_le (leaves_of t) 1024 && nat_le (depth_of t) 1000

-- The product of the factors above and a factor, where neither is too great.
abbrev pub product_of : ℕ → ℕ → Option ℕ
product_of above f = if is_factor f && is_factor (above * f) then Some (above * f) else None
