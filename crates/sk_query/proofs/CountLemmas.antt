-- Depths and leaves, part by part.
use Rattle.std.proofs.Common.{◌≡◌, ◌+◌, ◌&&◌, ℕ, false, max, nat_le, refl, arith}
use Rattle.std.proofs.lemmas.Bool.Decides.{nat_tests}
use Rattle.sk_query.specs.Trees.{Tree, nothing, all, term, wildcard, parts, near, phrase, synonym, scale, range}
use Rattle.sk_query.specs.Fits.{depth_of, depth_in}

deep : (n : ℕ) → nat_le (1 + n) 0 ≡ false
deep n = grind (arith, nat_tests)

-- each query is one deep at least
pub is_deep : (t : Tree) → nat_le (depth_of t) 0 ≡ false
is_deep nothing = refl
is_deep all = refl
is_deep (term t) = refl
is_deep (wildcard prefix) = refl
is_deep (parts form ts) = deep (depth_in ts)
is_deep (near w texts) = refl
is_deep (phrase w texts) = refl
is_deep (synonym texts) = refl
is_deep (scale f t) = deep (depth_of t)
is_deep (range slot lo hi) = refl

-- the greater is within where both are
pub max_within : (a b n : ℕ) → nat_le (max a b) n ≡ (nat_le a n && nat_le b n)
max_within a b n = grind (arith, nat_tests)
