use Rattle.std.proofs.Common.{◌≡◌, ◌<◌, ◌-◌, ◌^◌, max, map}
use Rattle.sk_query.specs.Trees.{query_view}
use Rattle.sk_sorted.specs.Joined.{parts_from}
use Rattle.sk_model.specs.Bounds.{ceil, greatest_in}
use Rattle.sk_model.specs.Joined.{joined_ceil}
use Rattle.sk_sharp.proofs.joined.joined_ceil.Given as goal

-- the greatest so far, and that of the parts that are left, is the greatest of all
abbrev pub invariant-parts : goal.invariant-parts
invariant-parts l =
    (max l.greatest (greatest_in (map (λ docs. ceil (query_view l.query) l.paging.options.scheme 1 docs) (parts_from (l.parts - l.part) l.parts l.part l.docs.entries))) ≡ joined_ceil l.parts (query_view l.query) l.paging.options.scheme l.docs.entries)
    × (l.greatest < 2 ^ 127)
