-- None of the terms between has the number.
use Rattle.std.proofs.Common.{ℕ, ◌<◌, ◌≤◌, ◌+◌, ◌-◌, ◌≢◌, length}
use Rattle.sk_packed.specs.Packed.{numbered_at}
use Rattle.sk_packed.proofs.packed_terms.PackedTerms.place_of.Given as goal

abbrev pub invariant-around : goal.invariant-around
invariant-around l = record {
  order : l.low ≤ l.high;
  within : l.high ≤ length l.self;
  between : (k : ℕ) → l.low ≤ k → k < l.high → (numbered_at l.self k).number ≢ l.number;
}

abbrev pub decreases-around : goal.decreases-around
decreases-around l = l.low + (length l.self - l.high)
