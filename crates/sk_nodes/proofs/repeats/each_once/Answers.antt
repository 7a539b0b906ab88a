-- A number more is new, or came before.
use Rattle.std.proofs.Common.{◌+◌, take, get_or, eqb, sym, ap, subst, ◌∙◌, arith}
use Rattle.std.proofs.lemmas.Bool.Decides.{Decides-eqb}
use Rattle.std.proofs.lemmas.List.Elements.{contains_decides, Decides-contains}
use Rattle.sk_nodes.specs.Repeats.{HaveSame}
use Rattle.sk_nodes.proofs.RepeatLaws.{same_new, same_again}
use Rattle.sk_nodes.proofs.repeats.each_once.Goals.{then-not-contains+in_ok-push, else-not-contains}
use Rattle.sk_nodes.proofs.repeats.each_once.Goals as goal

pub numbers-preserved : goal.numbers-preserved
numbers-preserved c = elim c.if-not-contains.branch [
  | then-not-contains+in_ok-push w ↦
      subst (λ ns. HaveSame (take (c.numbers.number-index + 1) c.args.numbers.now) ns) (sym (ap (λ v. v.items) w.once-is ∙ w.in_ok-push.ensures.items))
      (same_new c.args.numbers.now c.numbers.once.items c.numbers.number-index (omega (arith, c.numbers-test.true)) c.numbers.invariant)
  | else-not-contains w ↦
      let has = contains_decides eqb Decides-eqb c.as_slice.result.now (get_or c.args.numbers.now c.numbers.number-index 0) c.contains.result c.contains.ensures.cases in
      let there = (Decides-contains c.as_slice.result.now (get_or c.args.numbers.now c.numbers.number-index 0) c.contains.result has).0 w.if-not-contains.false in
      subst (λ ns. HaveSame (take (c.numbers.number-index + 1) c.args.numbers.now) ns) (sym (ap (λ v. v.items) w.once-is))
      (same_again c.args.numbers.now c.numbers.once.items c.numbers.number-index (omega (arith, c.numbers-test.true)) c.numbers.invariant (rw (sym c.as_slice.ensures.value) there))
]
