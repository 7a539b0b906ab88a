use Rattle.std.proofs.Common.{◌≡◌, ◌≤◌, drop}
use Rattle.sk_base.specs.Documents.{wdf_of}
use Rattle.sk_base.specs.Loads.{load_of}
use Rattle.sk_plain.proofs.terms.wdf_of.Given as goal

-- the terms that were passed over are others, so those that are left decide
abbrev pub invariant-terms : goal.invariant-terms
invariant-terms l =
    (wdf_of l.term (drop l.one-index l.terms) ≡ wdf_of l.term l.terms)
    × (load_of (drop l.one-index l.terms) ≤ load_of l.terms)
