use Rattle.std.proofs.Common.{◌≡◌, ◌++◌, map, drop}
use Rattle.sk_plain.specs.Pages.{hit_of}
use Rattle.sk_plain.proofs.page.hits_of.Given as goal

-- the hits so far, and those of the matches that are left, are all
abbrev pub invariant-asked : goal.invariant-asked
invariant-asked l =
    l.hits.items ++ map (hit_of l.paging l.docs.entries l.ranks) (drop l.rank-index l.asked) ≡ map (hit_of l.paging l.docs.entries l.ranks) l.asked
