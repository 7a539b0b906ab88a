-- The entries rise, so what is found is the place or the gap.
use Rattle.std.proofs.Common.{rules, arith, ℕ, sym, ap, ◌∙◌}
use Rattle.std.proofs.lemmas.List.Sorted.{answers_always}
use Rattle.sk_sorted.proofs.PlaceLaws.{searched, gap_at_end, id_at-get_or}
use Rattle.sk_sorted.proofs.place.place_of.Goals as goal

pub returns-then-last-id-clause-absent : goal.returns-then-last-id-clause-absent
returns-then-last-id-clause-absent g c =
    let item = c.in-Some.ensures.item in
    gap_at_end c.args.entries.now c.requires c.args.id c.in-Some.last.now.0 item.3.0 (sym (id_at-get_or c.args.entries.now _ c.in-Some.last.now (omega arith)) ∙ sym (ap (λ (e : ℕ × g.row.T.Denot). e.0) (item.3.1 c.in-Some.last.now))) c.if-last-id.true

pub returns-else-last-id : goal.returns-else-last-id
returns-else-last-id g c =
    let facts = c.binary_search_by_key.ensures in
    let by_key = facts.position (λ (e : ℕ × g.row.T.Denot). e.0) (answers_always _ _ _ (λ f a r k called. search rules)) in
    searched c.args.entries.now c.requires c.args.id c.in-Some.last.now c.binary_search_by_key.result facts.bound by_key
