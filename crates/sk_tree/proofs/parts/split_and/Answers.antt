-- What holds of an and holds of its first part and of the others, which are put together first.
use Rattle.std.proofs.Common.{◌≡◌, ◌<◌, arith}
use Rattle.sk_query.specs.Trees.{queries_view}
use Rattle.sk_tree.specs.Opened.{part_count}
use Rattle.sk_tree.proofs.CountLaws.{counted}
use Rattle.sk_tree.proofs.OpenLaws.{joined, parts_joined}
use Rattle.sk_tree.proofs.PartsLaws.{turned_splits}
use Rattle.sk_tree.proofs.LedLaws.{terms_count}
use Rattle.sk_tree.proofs.EqualLaws.{run_led, not_terms}
use Rattle.sk_tree.proofs.parts.split_and.Goals as goal

whole : (c : goal.After-others-1) → queries_view c.args.parts.now ≡ joined (queries_view c.split_at.result.0.now) (queries_view c.split_at.result.1.now)
whole c = parts_joined c.args.parts.now c.split_at.result.0.now c.split_at.result.1.now c.run_from.result c.split_at.ensures.front c.split_at.ensures.back

first_some : (c : goal.After-others-1) → 0 < part_count (queries_view c.split_at.result.0.now)
first_some c = omega (arith, counted c.split_at.result.0.now, c.split_at.ensures.front_len, c.run_from.ensures.some)

others_some : (c : goal.After-others-1) → 0 < part_count (queries_view c.split_at.result.1.now)
others_some c = omega (arith, counted c.split_at.result.1.now, c.split_at.ensures.back_len, c.requires.many)

pub returns-then-is_longer-clause-splits : goal.returns-then-is_longer-clause-splits
returns-then-is_longer-clause-splits c factor small are = turned_splits factor _ _ _ (whole c) are (others_some c) (first_some c) small

pub returns-then-is_longer-clause-led : goal.returns-then-is_longer-clause-led
returns-then-is_longer-clause-led c lists terms =
    run_led (queries_view c.args.parts.now) (queries_view c.split_at.result.0.now) (queries_view c.split_at.result.1.now) lists c.args.index.now.live.documents c.run_from.result (whole c) terms
    (omega (arith, counted c.split_at.result.0.now, c.split_at.ensures.front_len)) c.run_from.ensures.some (others_some c) c.run_from.ensures.others (c.is_longer.ensures.longer c.if-is_longer.true lists terms)

pub returns-clause-led : goal.returns-clause-led
returns-clause-led c lists terms =
    let count = terms_count (queries_view c.args.parts.now) lists terms in
    c.split_in_order.ensures.led lists c.args.index.now.live.documents tt (c.is_longer.ensures.ordered c.if-is_longer.false (omega (arith, counted c.args.parts.now, count.0, count.1, c.requires.leaves)) lists terms) terms

pub returns-then-run-gt1-clause-led : goal.returns-then-run-gt1-clause-led
returns-then-run-gt1-clause-led c lists terms = absurd (not_terms (queries_view c.args.parts.now) lists (c.run_from-run.ensures.others (omega arith)) terms)
