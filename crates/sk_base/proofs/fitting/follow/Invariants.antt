use Rattle.std.proofs.Common.{◌≡◌, ◌+◌, drop, Option, Some, None, Bool, ℕ, List}
use Rattle.sk_base.specs.declared.record.Entry.{Entry}
use Rattle.sk_base.specs.Fitting.{follow}
use Rattle.sk_base.proofs.fitting.follow.Given as goal

-- the places behind this one
abbrev follow_behind : Option ℕ → List Entry → Bool
follow_behind None entries = follow 0 entries
follow_behind (Some last) entries = follow (last + 1) entries

abbrev pub invariant-values : goal.invariant-values
invariant-values l = follow_behind l.last (drop l.entry-index l.values) ≡ follow 0 l.values
