-- Where more than one are the same, none of them is a term.
use Rattle.sk_tree.proofs.EqualLaws.{none_at}
use Rattle.sk_tree.proofs.parts.run_from.Goals as goal

pub returns-then-not-is_equal-clause-others : goal.returns-then-not-is_equal-clause-others
returns-then-not-is_equal-clause-others c more = none_at c.args.parts.now c.args.end c.index-parts-end.result _ c.requires c.index-parts-end.is (c.parts.invariant more)
