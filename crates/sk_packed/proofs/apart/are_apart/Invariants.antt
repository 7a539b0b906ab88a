-- The positions that were passed in either list are apart from all of the other.
use Rattle.std.proofs.Common.{ℕ, ◌<◌, ◌≤◌, ◌+◌, ◌-◌, length, get_or}
use Rattle.sk_packed.proofs.apart.are_apart.Given as goal

abbrev pub invariant-positions : goal.invariant-positions
invariant-positions l = record {
  within_first : l.i ≤ length l.first;
  within_second : l.j ≤ length l.second;
  passed_first : (a b : ℕ) → a < l.i → b < length l.second → get_or l.first a 0 < get_or l.second b 0 → get_or l.first a 0 + l.width ≤ get_or l.second b 0;
  passed_second : (a b : ℕ) → a < length l.first → b < l.j → get_or l.first a 0 < get_or l.second b 0 → get_or l.first a 0 + l.width ≤ get_or l.second b 0;
}

abbrev pub decreases-positions : goal.decreases-positions
decreases-positions l = (length l.first - l.i) + (length l.second - l.j)
