use Rattle.std.proofs.Common.{◌≡◌, ◌&&◌, ◌==◌, ◌≤◌, length}
use Rattle.sk_io.proofs.Pieces.{PutSoFar}
use Rattle.sk_io.proofs.put.put_all.Given as goal

abbrev pub invariant-pieces : goal.invariant-pieces
invariant-pieces g l = record {
  so_far : PutSoFar (g.K.Sink.seen l.fn.sink).held (g.K.Sink.seen l.sink).held l.piece l.rest;
  settled : (g.K.Sink.seen l.sink).settled ≡ ((g.K.Sink.seen l.fn.sink).settled && (length l.rest == length l.piece));
  finishes : (g.K.Sink.seen l.sink).finishes ≡ (g.K.Sink.seen l.fn.sink).finishes;
  later : (g.K.Sink.seen l.fn.sink).faults ≤ (g.K.Sink.seen l.sink).faults;
}

abbrev pub decreases-pieces : goal.decreases-pieces
decreases-pieces g l = length l.rest
