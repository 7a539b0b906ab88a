use Rattle.std.proofs.Common.{◌≡◌, drop}
use Rattle.sk_query.specs.Fits.{are_different}
use Rattle.sk_query.proofs.limits.are_different.Given as goal

-- the texts that were passed over stand once each, so those that are left decide
abbrev pub invariant-texts : goal.invariant-texts
invariant-texts l = are_different (drop l.i l.texts) ≡ are_different l.texts
