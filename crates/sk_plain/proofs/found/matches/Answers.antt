use Rattle.std.proofs.Common.{◌≢◌, AllPairs, rules, sym, subst}
use Rattle.sk_base.specs.declared.rank.Rank.{Rank}
use Rattle.sk_query.specs.Trees.{query_view}
use Rattle.sk_model.specs.Matches.{matches}
use Rattle.sk_plain.proofs.FoundLemmas.{some_step, none_step}
use Rattle.sk_plain.proofs.IdLemmas.{ids_differ}
use Rattle.sk_plain.proofs.found.matches.Goals as goal

pub docs-preserved-in-Continue-branch-3 : goal.docs-preserved-in-Continue-branch-3
docs-preserved-in-Continue-branch-3 c =
    some_step (query_view c.args.query.now) c.args.scheme c.args.order c.docs.ranks.items c.push.new.self.items
    (matches (query_view c.args.query.now) c.args.scheme c.args.order c.args.docs.now.entries)
    c.in-Some-2.rank (c.in-Some.id.now, c.in-Some.doc.now) c.docs.id-iterator c.next.new.self
    (search rules) (search rules) (search rules) c.docs.invariant

pub docs-preserved : goal.docs-preserved
docs-preserved c =
    none_step (query_view c.args.query.now) c.args.scheme c.args.order c.docs.ranks.items
    (matches (query_view c.args.query.now) c.args.scheme c.args.order c.args.docs.now.entries)
    (c.in-Some.id.now, c.in-Some.doc.now) c.docs.id-iterator c.next.new.self
    (search rules) (search rules) c.docs.invariant

pub returns-clause-differ : goal.returns-clause-differ
returns-clause-differ c =
    subst (λ ranks. AllPairs (λ (x y : Rank). x.id ≢ y.id) ranks) (sym (search rules))
    (ids_differ (query_view c.args.query.now) c.args.scheme c.args.order c.args.docs.now.entries c.iter-id-items.ensures.ordered)
