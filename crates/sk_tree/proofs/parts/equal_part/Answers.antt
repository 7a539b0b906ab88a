-- One part more.
use Rattle.std.proofs.Common.{List, sym, subst, arith}
use Rattle.sk_query.specs.declared.query.Query.{Query}
use Rattle.sk_query.specs.Trees.{query_view, queries_view}
use Rattle.sk_tree.specs.Equal.{AllAre}
use Rattle.sk_tree.proofs.WordLaws.{cut}
use Rattle.sk_tree.proofs.parts.equal_part.Goals as goal

pub parts-preserved : goal.parts-preserved
parts-preserved c =
    let here = cut c.args.parts.now c.parts.part-index c.part-item.result (omega arith) c.part-item.is in
    record {
      one = λ some. c.is_equal.ensures.one c.if-not-is_equal.false;
      all = λ rest.
          c.parts.invariant.all (subst (λ (ps : List Query). AllAre (query_view c.in_ok-first.first.now) (queries_view ps)) (sym here) (c.is_equal.ensures.same c.if-not-is_equal.false, rest));
    }
