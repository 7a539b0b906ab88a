use Rattle.std.proofs.Common.{◌≡◌, ◌≤◌, ◌+◌, drop}
use Rattle.sk_model.specs.Scores.{wild_wdf}
use Rattle.sk_base.specs.Loads.{load_of}
use Rattle.sk_plain.proofs.terms.wild_wdf.Given as goal

-- what was added, and what is left, is the whole
abbrev pub invariant-terms : goal.invariant-terms
invariant-terms l =
    (l.sum + wild_wdf l.prefix (drop l.one-index l.terms) ≡ wild_wdf l.prefix l.terms)
    × (l.sum + load_of (drop l.one-index l.terms) ≤ load_of l.terms)
