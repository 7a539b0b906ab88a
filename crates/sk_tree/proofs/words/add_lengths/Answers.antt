-- One list more.
use Rattle.std.proofs.Common.{◌+◌, arith, sym, subst, ap, ◌∙◌, List, ℕ}
use Rattle.sk_nodes.specs.Proximity.{AreThere, AreInOrder}
use Rattle.sk_tree.proofs.WordLaws.{cut_at}
use Rattle.sk_nodes.proofs.ProximityLaws.{lengths_next}
use Rattle.sk_tree.proofs.words.add_lengths.Goals as goal

pub numbers-preserved : goal.numbers-preserved
numbers-preserved c =
    let i = c.args.index.now in
    let inv = c.numbers.invariant in
    let here = cut_at c.args.numbers.now c.numbers.number-index 0 (omega (arith, c.numbers-test.true)) in
    record {
      there = (subst (λ (ns : List ℕ). AreThere i ns) here inv.there).1;
      sorted = λ rest. inv.sorted (subst (λ (ns : List ℕ). AreInOrder i ns) (sym here) (c.list_length-length.ensures.sorted, rest));
      sum = lengths_next i c.args.numbers.now c.numbers.number-index _ c.numbers.most _ _ here (c.in_ok-raise.ensures.ok ∙ ap (λ n. c.numbers.most + n) c.list_length-length.ensures.value) inv.sum;
      later = omega (arith, inv.later, c.raise.ensures.later);
      small = λ lt. c.raise.ensures.small (inv.small lt);
    }
