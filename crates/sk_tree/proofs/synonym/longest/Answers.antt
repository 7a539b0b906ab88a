-- One list more, which is longer than those before it or not.
use Rattle.std.proofs.Common.{◌≤◌, ℕ, All, length, get_or, subst, ap, arith}
use Rattle.std.proofs.lemmas.Bool.Decides.{nat_tests}
use Rattle.std.proofs.lemmas.List.{take_all}
use Rattle.sk_nodes.specs.declared.leaf.ListOf.TheVariants as ListOf
use Rattle.sk_nodes.specs.Leaves.{list_in}
use Rattle.sk_tree.proofs.MergeOpenLaws.{there_at, within_next}
use Rattle.sk_tree.proofs.synonym.longest.Goals.{then-most-length, else-most-length}
use Rattle.sk_tree.proofs.synonym.longest.Goals as goal

pub list_length-length-requires : goal.list_length-length-requires
list_length-length-requires c = there_at c.args.index.now c.args.numbers.now c.numbers.which 0 (omega (arith, c.numbers-test.true)) c.requires.there

pub numbers-preserved : goal.numbers-preserved
numbers-preserved c =
    let ns = c.args.numbers.now in
    let long : ℕ → ℕ = λ n. length (list_in c.args.index.now (ListOf.Term n)) in
    let inv = c.numbers.invariant in
    let here = c.list_length-length.ensures.value in
    elim c.if-most-length.branch [
      | then-most-length w ↦ record {
        within = omega (arith, w.longest-is, c.numbers-test.true);
        most = omega (arith, w.most-is, here, ap (λ k. long (get_or ns k 0)) w.longest-is);
        before = within_next long ns c.numbers.which 0 c.numbers.most c.if-most-length.most (omega (arith, c.numbers-test.true)) (grind (arith, nat_tests, w.most-is, w.if-most-length.true)) (omega (arith, w.most-is, here)) inv.before;
      }
      | else-most-length w ↦ record {
        within = omega (arith, w.longest-is, inv.within);
        most = omega (arith, w.most-is, inv.most, ap (λ k. long (get_or ns k 0)) w.longest-is);
        before = within_next long ns c.numbers.which 0 c.numbers.most c.if-most-length.most (omega (arith, c.numbers-test.true)) (omega (arith, w.most-is)) (grind (arith, nat_tests, w.most-is, w.if-most-length.false, here)) inv.before;
      }
    ]

pub returns-clause-longest : goal.returns-clause-longest
returns-clause-longest c k d lt =
    let ns = c.args.numbers.now in
    let inv = c.numbers.invariant in
    let all = take_all c.numbers.which ns (omega (arith, c.numbers-test.false)) in
    let le = subst (λ ms. All (λ n. length (list_in c.args.index.now (ListOf.Term n)) ≤ c.numbers.most) ms) all inv.before k d lt in
    omega (arith, le, inv.most)
