use Rattle.std.proofs.Common.{◌≡◌, ◌++◌}
use Rattle.sk_base.specs.Numbers.{terms_with}
use Rattle.sk_sharp.proofs.lists.terms_with.Given as goal

-- the terms so far, and those of the documents that are left, are all
abbrev pub invariant-docs : goal.invariant-docs
invariant-docs l = l.terms ++ terms_with l.prefix l.left ≡ terms_with l.prefix l.docs.entries
