use Rattle.std.proofs.Common.{arith, ap, length, sym, ◌∙◌}
use Rattle.std.proofs.lemmas.Result.{IfOk-weaker}
use Rattle.sk_query.specs.Trees.{query_view}
use Rattle.sk_facets.proofs.CountLemmas.{opened, room, passed, fewer, more_matches, knows_all, told, all_ok}
use Rattle.sk_tree.specs.Built.{left}
use Rattle.sk_facets.proofs.counting.count.Goals as goal

pub matches-init : goal.matches-init
matches-init g c = (
  opened c.args.index.now (query_view c.args.query.now) c.args.slot c.in_ok-tree.tree c.new-tally.result c.in_ok-tree.ensures.built c.in_ok-tree.ensures.left c.in_ok-tree.ensures.need c.new-tally.ensures,
  omega (arith, c.in_ok-tree.ensures.cost, c.new-tally.ensures.matches),
)

pub note-requires-clause-few : goal.note-requires-clause-few
note-requires-clause-few g c =
    let counting = c.matches.invariant.0 in
    room c.args.index.now (query_view c.args.query.now) c.args.slot c.matches.tree c.matches.tally counting c.in-Some.id (sym (c.head.ensures c.args.index.now counting.built.tree) ∙ c.in-Some.is)

pub matches-preserved : goal.matches-preserved
matches-preserved g c =
    let counting = c.matches.invariant.0 in (
      passed c.args.index.now (query_view c.args.query.now) c.args.slot c.matches.tree c.matches.tally counting c.in-Some.id c.value.result.now c.pass.new.tree c.note.new.self
          (sym (c.head.ensures c.args.index.now counting.built.tree) ∙ c.in-Some.is) c.value.ensures.value c.pass.ensures.left (c.pass.ensures.built _ _ counting.built) c.pass.ensures.need c.in-Ok.ensures.knows,
      omega (arith, c.pass.ensures.cost, c.value.ensures.cost, c.matches.invariant.1, more_matches c.matches.tally c.note.new.self c.value.result.now counting.seen counting.knows (c.in-Ok.ensures.knows counting.seen counting.knows)),
    )

pub returns-clause-facets : goal.returns-clause-facets
returns-clause-facets g c =
    let counting = c.matches.invariant.0 in
    let knows = knows_all c.args.index.now (query_view c.args.query.now) c.args.slot c.matches.tree c.matches.tally counting (sym (c.head.ensures c.args.index.now counting.built.tree) ∙ c.in_default.is) in
    all_ok c.finish.result _ _ _ _
    (λ facets first numbers steps. told c.args.index.now (query_view c.args.query.now) c.args.slot c.args.size c.spent-spent.result c.matches.tally facets knows (first _ knows) numbers.0 numbers.1 steps (c.spent-spent.ensures.within c.args.index.now _ _ counting.built))
    c.finish.ensures.values c.finish.ensures.numbers c.finish.ensures.steps

pub returns-in_err-tree-clause-later : goal.returns-in_err-tree-clause-later
returns-in_err-tree-clause-later g c = c.open.ensures.later

pub pass-requires-clause-tree : goal.pass-requires-clause-tree
pass-requires-clause-tree g c = c.matches.invariant.0.built.tree

pub pass-requires-clause-need : goal.pass-requires-clause-need
pass-requires-clause-need g c = c.matches.invariant.0.need

pub pass-requires-clause-head : goal.pass-requires-clause-head
pass-requires-clause-head g c = sym (c.head.ensures c.args.index.now c.matches.invariant.0.built.tree) ∙ c.in-Some.is

pub matches-smaller : goal.matches-smaller
matches-smaller g c =
    omega (arith, fewer c.in-Some.id (left c.args.index.now c.matches.tree) (sym (c.head.ensures c.args.index.now c.matches.invariant.0.built.tree) ∙ c.in-Some.is), ap length c.pass.ensures.left)

pub returns-in_default-note-clause-later : goal.returns-in_default-note-clause-later
returns-in_default-note-clause-later g c = omega (arith, c.value.ensures.cost, c.matches.invariant.1)

pub returns-clause-cost : goal.returns-clause-cost
returns-clause-cost g c =
    IfOk-weaker c.finish.result _ _ (λ facets e. omega (arith, e, c.spent-spent.ensures.value, c.matches.invariant.1)) c.finish.ensures.steps

pub returns-clause-later : goal.returns-clause-later
returns-clause-later g c = omega (arith, c.matches.invariant.1)
