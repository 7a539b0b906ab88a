use Rattle.std.proofs.Common.{◌≡◌, ◌++◌, [], Some, drop}
use Rattle.sk_model.specs.Matches.{key_of}
use Rattle.sk_model.specs.Page.{kept_behind}
use Rattle.sk_plain.proofs.kept.collapsed.Given as goal

-- the kept ones so far, and those that will be kept of the ranks that are left, are all
abbrev pub invariant-ranks : goal.invariant-ranks
invariant-ranks l =
    l.kept.items ++ kept_behind l.by.max (key_of (Some l.by) l.docs.entries) l.before.items (drop l.rank-index l.ranks)
    ≡ kept_behind l.by.max (key_of (Some l.by) l.docs.entries) [] l.ranks
