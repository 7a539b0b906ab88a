-- What holds of parts holds of the first of them and of the others.
use Rattle.std.proofs.Common.{◌≡◌, ◌<◌, sym, subst, arith}
use Rattle.sk_query.specs.Trees.{queries_view}
use Rattle.sk_tree.specs.Opened.{part_count}
use Rattle.sk_tree.specs.OpenedLed.{SplitsOff}
use Rattle.sk_tree.proofs.CountLaws.{counted}
use Rattle.sk_tree.proofs.OpenLaws.{joined, parts_joined}
use Rattle.sk_tree.proofs.PartsLaws.{splits}
use Rattle.sk_tree.proofs.LedLaws.{splits_led}
use Rattle.sk_tree.proofs.parts.split_in_order.Goals as goal

whole : (c : goal.After-split_at) → queries_view c.args.parts.now ≡ joined (queries_view c.split_at.result.0.now) (queries_view c.split_at.result.1.now)
whole c = parts_joined c.args.parts.now c.split_at.result.0.now c.split_at.result.1.now c.split_of.result c.split_at.ensures.front c.split_at.ensures.back

front_some : (c : goal.After-split_at) → 0 < part_count (queries_view c.split_at.result.0.now)
front_some c = omega (arith, counted c.split_at.result.0.now, c.split_at.ensures.front_len, c.split_of.ensures.begun)

back_some : (c : goal.After-split_at) → 0 < part_count (queries_view c.split_at.result.1.now)
back_some c = omega (arith, counted c.split_at.result.1.now, c.split_at.ensures.back_len, c.split_of.ensures.within)

pub returns-clause-splits : goal.returns-clause-splits
returns-clause-splits c factor small are = splits c.args.form factor _ _ _ (whole c) are (front_some c) (back_some c) small c.requires.nest

pub returns-clause-led : goal.returns-clause-led
returns-clause-led c lists docs can ordered terms =
    splits_led c.args.form (queries_view c.args.parts.now) (queries_view c.split_at.result.0.now) (queries_view c.split_at.result.1.now) lists docs c.split_of.result (whole c) terms c.requires.leaves
    (omega (arith, counted c.split_at.result.0.now, c.split_at.ensures.front_len)) (front_some c) (back_some c)
    (subst (λ n. SplitsOff c.args.form n c.split_of.result) (sym (counted c.args.parts.now)) c.split_of.ensures.off) can ordered
