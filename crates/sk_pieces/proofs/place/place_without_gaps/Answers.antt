-- What is compared is the id at the place.
use Rattle.std.proofs.Common.{◌<◌, length, arith}
use Rattle.sk_sorted.proofs.PlaceLaws.{id_at-get_or}
use Rattle.sk_pieces.proofs.place.place_without_gaps.Goals as goal

pub returns-then-entries-at : goal.returns-then-entries-at
returns-then-entries-at g c =
    let inside : c.in_ok-at.field-0 < length c.args.entries.now = omega arith in
    record {
      in_range = inside;
      has_id = omega (arith, id_at-get_or c.args.entries.now c.in_ok-at.field-0 c.index-entries-at.result inside, c.if-entries-at.true);
    }
