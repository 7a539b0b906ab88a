use Rattle.std.proofs.Common.{◌≡◌, ◌≤◌, true}
use Rattle.sk_io.specs.LineText.{HasLineEnd}
use Rattle.sk_io.proofs.Stream.{SearchSoFar}
use Rattle.sk_io.proofs.lines.Lines.read_end.Given as goal

abbrev pub invariant-search : goal.invariant-search
invariant-search g l = record {
  so_far : SearchSoFar l.fn.self (g.S.Source.seen l.fn.source).left l.self (g.S.Source.seen l.source).left l.seen;
  later : (g.S.Source.seen l.fn.source).faults ≤ (g.S.Source.seen l.source).faults;
  prompt : HasLineEnd l.fn.self.held → (l.self ≡ l.fn.self) × (l.source ≡ l.fn.source);
  ended : l.fn.self.ended ≡ true → (l.self ≡ l.fn.self) × (l.source ≡ l.fn.source);
}

abbrev pub decreases-search : goal.decreases-search
decreases-search g l = l.self.room
