use Rattle.std.proofs.Common.{◌≡◌, ◌≤◌, true}
use Rattle.sk_io.proofs.Stream.{SkipSoFar}
use Rattle.sk_io.proofs.lines.Lines.skip_line.Given as goal

abbrev pub invariant-skip : goal.invariant-skip
invariant-skip g l = record {
  so_far : SkipSoFar l.fn.self (g.S.Source.seen l.fn.source).left l.self (g.S.Source.seen l.source).left;
  later : (g.S.Source.seen l.fn.source).faults ≤ (g.S.Source.seen l.source).faults;
  ended : l.fn.self.ended ≡ true → (l.self.ended ≡ true) × (l.source ≡ l.fn.source);
}

abbrev pub decreases-skip : goal.decreases-skip
decreases-skip g l = l.self.room
