use Rattle.std.proofs.Common.{◌∙◌, sym, arith}
use Rattle.std.specs.BTreeMap.{insert_entry}
use Rattle.sk_facets.proofs.TallyLemmas.{cmp, found_few, saw_again, saw_first}
use Rattle.sk_facets.proofs.tally.add_one.Goals as goal

pub overflow_add-count : goal.overflow_add-count
overflow_add-count c =
    omega (arith, found_few c.args.value.now c.requires.few.0 c.in-Some.count.now c.args.counts.now.entries c.requires.few.2 (sym c.in-Some.ensures.value), c.requires.few.1)

pub returns-in-Some : goal.returns-in-Some
returns-in-Some c = record {
  tallied = λ values t. saw_again c.args.value.now values c.in-Some.count.now c.args.counts.now.entries _ (sym c.in-Some.ensures.value) (c.get_mut.follows.holds _).0 t;
}

pub returns-in_ok-insert-in-None : goal.returns-in_ok-insert-in-None
returns-in_ok-insert-in-None c = record {
  tallied = λ values t.
      saw_first c.args.value.now values c.in_ok-key-in-None.key c.args.counts.now.entries c.insert.new.self.entries c.requires.given (c.in_ok-key-in-None.ensures.items_if_clones_equal (λ x y e. e))
      (sym c.in-None.ensures.value)
      (c.in_ok-insert-in-None.ensures.entries ∙ (λ i. insert_entry cmp (c.get_mut.follows.holds-at-none i).entries c.in_ok-key-in-None.key 1)) t;
}
