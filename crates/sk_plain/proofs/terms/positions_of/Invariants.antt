use Rattle.std.proofs.Common.{◌≡◌, drop}
use Rattle.sk_base.specs.Documents.{positions_of}
use Rattle.sk_plain.proofs.terms.positions_of.Given as goal

-- the terms that were passed over are others, so those that are left decide
abbrev pub invariant-terms : goal.invariant-terms
invariant-terms l = positions_of l.term (drop l.one-index l.terms) ≡ positions_of l.term l.terms
