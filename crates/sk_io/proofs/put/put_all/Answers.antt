use Rattle.std.proofs.Common.{arith, rules, ◌∙◌, ◌<◌, ◌≤◌, length}
use Rattle.sk_io.proofs.Pieces.{put_more, rest_short, settled_more}
use Rattle.sk_io.proofs.put.put_all.Goals as goal

pub pieces-preserved : goal.pieces-preserved
pieces-preserved g c =
    let rest = c.pieces.rest.now in
    let n = c.in_ok-taken.taken in
    let short : length rest ≤ length c.args.piece.now = rest_short _ _ _ _ c.pieces.invariant.so_far in
    let some : 0 < n = search (rules, c.in_ok-taken.ensures.some) in
    record {
      so_far = put_more _ _ _ c.args.piece.now rest n c.in_ok-taken.ensures.bound c.pieces.invariant.so_far c.in_ok-taken.ensures.bytes;
      settled = settled_more _ _ c.args.piece.now rest n some c.in_ok-taken.ensures.bound short c.put.ensures.settled;
      finishes = c.put.ensures.finishes ∙ c.pieces.invariant.finishes;
      later = omega (arith, c.put.ensures.cause.later);
    }
