use Rattle.std.proofs.Common.{◌≡◌, drop, nat_le}
use Rattle.sk_query.specs.Trees.{queries_view}
use Rattle.sk_query.specs.Fits.{depth_in}
use Rattle.sk_query.proofs.limits.+is_within.Given as goal

-- the parts that were passed over are not too deep, so those that are left decide
abbrev pub invariant-are_within-parts : goal.invariant-are_within-parts
invariant-are_within-parts l = nat_le (depth_in (queries_view (drop l.part-index l.parts))) l.most ≡ nat_le (depth_in (queries_view l.parts)) l.most
