-- What holds of parts holds of their halves.
use Rattle.std.proofs.Common.{◌≡◌, ◌<◌, arith}
use Rattle.sk_query.specs.Trees.{queries_view}
use Rattle.sk_tree.specs.Opened.{part_count}
use Rattle.sk_tree.proofs.CountLaws.{counted}
use Rattle.sk_tree.proofs.OpenLaws.{joined, parts_joined}
use Rattle.sk_tree.proofs.PartsLaws.{halves}
use Rattle.sk_tree.proofs.parts.side_halves.Goals as goal

whole : (c : goal.After-split_at) → queries_view c.args.parts.now ≡ joined (queries_view c.split_at.result.0.now) (queries_view c.split_at.result.1.now)
whole c = parts_joined c.args.parts.now c.split_at.result.0.now c.split_at.result.1.now _ c.split_at.ensures.front c.split_at.ensures.back

front_some : (c : goal.After-split_at) → 0 < part_count (queries_view c.split_at.result.0.now)
front_some c = omega (arith, counted c.split_at.result.0.now, c.split_at.ensures.front_len, c.requires)

back_some : (c : goal.After-split_at) → 0 < part_count (queries_view c.split_at.result.1.now)
back_some c = omega (arith, counted c.split_at.result.1.now, c.split_at.ensures.back_len, c.split_at.ensures.front_len, c.requires)

pub returns : goal.returns
returns c factor are = halves factor (queries_view c.args.parts.now) _ _ (whole c) are (front_some c) (back_some c)
