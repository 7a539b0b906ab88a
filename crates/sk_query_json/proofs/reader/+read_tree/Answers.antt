use Rattle.std.proofs.Common.{◌∙◌, Some, ap, sym, arith, rules}
use Rattle.sk_query.specs.declared.query.Query.{the_lemmas}
use Rattle.sk_query.specs.Trees.{query_view}
use Rattle.sk_query_json.proofs.ReadingLemmas.{not_two, scaled_by, scaled_none, two_items, step_read, end_read}
use Rattle.sk_query_json.proofs.reader.+read_tree.Goals as goal

pub scaled-returns-in_err-part-in-len2-clause-shape :
    goal.scaled-returns-in_err-part-in-len2-clause-shape
scaled-returns-in_err-part-in-len2-clause-shape t c =
    let least = c.in-len2.len_at_least in
    let below = c.in-len2.len_below in
    λ e. two_items c.args.items.now _ _ (omega arith) c.factor-item.is c.part-item.is ∙ scaled_none _ _ (search rules)

pub scaled-returns-in-len1-clause-shape : goal.scaled-returns-in-len1-clause-shape
scaled-returns-in-len1-clause-shape t c =
    let below = c.in-len1.len_below in
    λ _. not_two c.args.items.now (λ e. omega arith)

pub scaled-returns-in_ok-part-in-len2-2-clause-ok :
    goal.scaled-returns-in_ok-part-in-len2-2-clause-ok
scaled-returns-in_ok-part-in-len2-2-clause-ok t c =
    let least = c.in-len2.len_at_least in
    let below = c.in-len2.len_below in
    let factor = sym c.factor_of.ensures ∙ c.in-Some.is in
    let part = c.in_ok-part-in-len2.ensures.ok ∙ ap (λ q. Some (query_view q)) (sym c.in_ok-part-in-len2-2.ensures.ok) in
    two_items c.args.items.now _ _ (omega arith) c.factor-item.is c.part-item.is
    ∙ (λ i. scaled_by (factor i) (part i))
    ∙ search (rules, the_lemmas)

pub scaled-returns-in-len3-up-clause-shape : goal.scaled-returns-in-len3-up-clause-shape
scaled-returns-in-len3-up-clause-shape t c =
    let least = c.in-len3-up.len_at_least in
    λ _. not_two c.args.items.now (λ e. omega arith)

pub read_trees-items-preserved : goal.read_trees-items-preserved
read_trees-items-preserved t c =
    step_read c.args.items.now c.items.item-index c.item-item.result c.items.made.items _ c.in_ok-read_tree.field-0
    (omega arith) c.item-item.is c.in_ok-read_tree.ensures.ok c.in_ok-push.ensures.items c.items.invariant

pub read_trees-returns-clause-ok : goal.read_trees-returns-clause-ok
read_trees-returns-clause-ok t c =
    end_read c.args.items.now c.items.item-index c.items.made.items (omega arith) c.items.invariant
