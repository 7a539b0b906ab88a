-- The run does not end below the target, so it has more behind an entry that does.
use Rattle.std.proofs.Common.{arith, ◌≡◌, ◌+◌, ◌-◌, subst, sym, ap, ◌∙◌, refl, take, drop, get_or}
use Rattle.sk_sorted.specs.Entries.{LieBelow}
use Rattle.sk_lists.proofs.CursorLemmas.{more_behind, below_more}
use Rattle.sk_lists.proofs.cursor.Cursor.read_on.Goals as goal

pub seek-preserved : goal.seek-preserved
seek-preserved g c = record {
  run = c.seek.invariant.run;
  read = c.seek.invariant.read;
  onward = omega (arith, c.seek.invariant.onward);
  more = more_behind c.args.target c.seek.read c.args.chunk.now c.entry-entry.result c.seek.invariant.more c.entry-entry.ensures.value c.if-entry-target.false c.requires.reaches;
  below = subst (λ n. LieBelow c.args.target (take n (drop c.args.self.now.read c.args.chunk.now))) (omega (arith, c.seek.invariant.onward))
      (below_more c.args.target c.args.self.now.read (c.seek.read - c.args.self.now.read) c.seek.read c.args.chunk.now c.entry-entry.result (omega (arith, c.seek.invariant.onward)) c.seek.invariant.more c.entry-entry.ensures.value c.seek.invariant.below c.if-entry-target.false);
  cost = omega (arith, c.entry-entry.ensures.cost, c.seek.invariant.cost, c.seek.invariant.onward);
}

pub returns-then-entry-target-clause-reads : goal.returns-then-entry-target-clause-reads
returns-then-entry-target-clause-reads g c =
    let count : c.seek.read + 1 - c.seek.self.read - 1 ≡ c.seek.read - c.args.self.now.read = omega (arith, c.seek.invariant.read, c.seek.invariant.onward) in
    record {
      counted = omega (arith, c.seek.invariant.read, c.seek.invariant.onward);
      some = omega (arith, c.seek.invariant.read, c.seek.invariant.onward);
      within = omega (arith, c.seek.invariant.more);
      below = subst (λ n. LieBelow c.args.target (take n (drop c.args.self.now.read c.args.chunk.now))) (sym count) c.seek.invariant.below;
      last = c.entry-entry.result;
      is = refl;
      at = ap (λ i. get_or c.args.chunk.now i c.entry-entry.result) (omega arith) ∙ sym c.entry-entry.ensures.value;
      reached = c.if-entry-target.true;
    }

pub returns-then-entry-target-clause-cost : goal.returns-then-entry-target-clause-cost
returns-then-entry-target-clause-cost g c = omega (arith, c.entry-entry.ensures.cost, c.seek.invariant.cost, c.seek.invariant.read, c.seek.invariant.onward)
