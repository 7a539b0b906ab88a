-- A number in the range that is not wanted comes behind the edge.
use Rattle.std.proofs.Common.{sym, ◌∙◌}
use Rattle.sk_values.specs.Behind.{AreSpans}
use Rattle.sk_values.proofs.SkipLaws.{unwanted_behind}
use Rattle.sk_values.proofs.edge.sift.Goals as goal

pub returns-in-Some-Some-clause-behind : goal.returns-in-Some-Some-clause-behind
returns-in-Some-Some-clause-behind c within unwanted last edge =
    let are : AreSpans c.args.edge.now.number c.args.edge.now.reverse c.args.bounds.now.lo c.args.bounds.now.hi c.in-Some-Some.spans = rw c.in-Some-Some.is-0 at c.requires in
    unwanted_behind c.args.edge.now.number c.args.edge.now.reverse c.args.bounds.now.lo c.args.bounds.now.hi c.in-Some-Some.spans are c.in-Some-Some.n (sym c.has.ensures ∙ within)
    (sym c.has-in-Some-Some.ensures ∙ unwanted) last c.args.value.now edge c.in-Some-Some.ensures
