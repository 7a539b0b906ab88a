use Rattle.std.proofs.Common.{◌≡◌, ◌&&◌, ◌++◌, not, map, filter, drop}
use Rattle.sk_base.specs.Documents.{begins_with}
use Rattle.sk_base.specs.Numbers.{some_has, term_in}
use Rattle.sk_sharp.proofs.lists.push_last.Given as goal

-- the terms so far, and those of the entries that are left, are all
abbrev pub invariant-ones : goal.invariant-ones
invariant-ones l =
    l.terms ++ filter (λ t. begins_with t l.prefix && not (some_has t l.behind)) (map term_in (drop l.one-index l.ones))
    ≡ l.initial.terms ++ filter (λ t. begins_with t l.prefix && not (some_has t l.behind)) (map term_in l.ones)
