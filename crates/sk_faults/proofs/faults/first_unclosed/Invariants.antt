use Rattle.std.proofs.Common.{◌≡◌, ◌≤◌, length, drop, ◌+◌}
use Rattle.sk_grammar.specs.Faults.{kinds_of}
use Rattle.sk_faults.specs.Before.{closers, unclosed_from}
use Rattle.sk_faults.proofs.faults.first_unclosed.Given as goal

abbrev pub invariant-tokens : goal.invariant-tokens
invariant-tokens l = record {
  within : l.i ≤ length l.tokens;
  first : l.first ≡ unclosed_from l.i (kinds_of (drop l.i l.tokens));
  count : l.closers ≡ closers (kinds_of (drop l.i l.tokens));
  few : l.closers + l.i ≤ length l.tokens;
}

abbrev pub decreases-tokens : goal.decreases-tokens
decreases-tokens l = l.i
