-- What the halves that were left out say of the terms.
use Rattle.std.proofs.Common.{◌-◌}
use Rattle.sk_terms.specs.Named.{named_all}
use Rattle.sk_index.specs.Placed.{IsBetween}
use Rattle.sk_index.proofs.places.place_of.Given as goal

abbrev pub invariant-halves : goal.invariant-halves
invariant-halves l = IsBetween l.term (named_all l.lists.terms l.packed) l.low l.high

abbrev pub decreases-halves : goal.decreases-halves
decreases-halves l = l.high - l.low
