-- What is counted of terms is how long their lists are.
use Rattle.std.proofs.Common.{arith}
use Rattle.std.proofs.lemmas.Bool.{ltb-true, ltb-false}
use Rattle.sk_tree.proofs.LedLaws.{static_first, static_last}
use Rattle.sk_tree.proofs.parts.is_longer.Goals as goal

pub returns-then-last-lt-MOST_NESTED-clause-longer : goal.returns-then-last-lt-MOST_NESTED-clause-longer
returns-then-last-lt-MOST_NESTED-clause-longer c e lists terms =
    let docs = c.args.index.now.live.documents in
    let last = static_last c.args.parts.now lists docs c.index-parts-last.result _ _ (omega arith) c.index-parts-last.is terms in
    let first = static_first c.args.parts.now lists docs c.index-parts-0.result _ (omega arith) c.index-parts-0.is terms in
    omega (arith, ltb-true c.static_count.result c.static_count-then-last-lt-MOST_NESTED.result e, c.static_count.ensures, c.static_count-then-last-lt-MOST_NESTED.ensures, last, first)

pub returns-then-last-lt-MOST_NESTED-clause-ordered : goal.returns-then-last-lt-MOST_NESTED-clause-ordered
returns-then-last-lt-MOST_NESTED-clause-ordered c e small lists terms =
    let docs = c.args.index.now.live.documents in
    let last = static_last c.args.parts.now lists docs c.index-parts-last.result _ _ (omega arith) c.index-parts-last.is terms in
    let first = static_first c.args.parts.now lists docs c.index-parts-0.result _ (omega arith) c.index-parts-0.is terms in
    omega (arith, ltb-false c.static_count.result c.static_count-then-last-lt-MOST_NESTED.result e, c.static_count.ensures, c.static_count-then-last-lt-MOST_NESTED.ensures, last, first)
