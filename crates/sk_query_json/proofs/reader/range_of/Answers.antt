use Rattle.std.proofs.Common.{◌∙◌, sym, arith, rules}
use Rattle.sk_query.specs.declared.query.Query.{the_lemmas}
use Rattle.sk_query_json.proofs.ReadingLemmas.{not_three, ranged_by, three_items}
use Rattle.sk_query_json.proofs.reader.range_of.Goals as goal

pub returns-in-len1-clause-shape : goal.returns-in-len1-clause-shape
returns-in-len1-clause-shape c =
    let below = c.in-len1.len_below in
    λ _. not_three c.args.items.now (λ e. omega arith)

pub returns-in-len2-clause-shape : goal.returns-in-len2-clause-shape
returns-in-len2-clause-shape c =
    let below = c.in-len2.len_below in
    λ _. not_three c.args.items.now (λ e. omega arith)

pub returns-in_ok-hi-in-len3-clause-ok : goal.returns-in_ok-hi-in-len3-clause-ok
returns-in_ok-hi-in-len3-clause-ok c =
    let least = c.in-len3.len_at_least in
    let below = c.in-len3.len_below in
    let slot = sym c.slot_of.ensures ∙ c.in-Some.is in
    three_items c.args.items.now _ _ _ (omega arith) c.slot-item.is c.lo-item.is c.hi-item.is
    ∙ (λ i. ranged_by (slot i) (c.in_ok-lo-in-len3.ensures.ok i) (c.in_ok-hi-in-len3.ensures.ok i))
    ∙ search (rules, the_lemmas)

pub returns-in-len4-up-clause-shape : goal.returns-in-len4-up-clause-shape
returns-in-len4-up-clause-shape c =
    let least = c.in-len4-up.len_at_least in
    λ _. not_three c.args.items.now (λ e. omega arith)
