-- What holds of terms holds of their halves.
use Rattle.std.proofs.Common.{arith}
use Rattle.sk_tree.proofs.SynonymLaws.{halves_there, halves_apart, halves_wdfs, halves_readings, halves_named}
use Rattle.sk_tree.proofs.synonym.number_halves.Goals as goal

pub returns : goal.returns
returns c i there apart =
    let ns = c.args.numbers.now in
    let front = c.split_at.ensures.front in
    let back = c.split_at.ensures.back in
    let both_there = halves_there i ns _ _ _ front back there in
    let both_apart = halves_apart i ns _ _ _ front back apart in
    record {
      front_there = both_there.0;
      back_there = both_there.1;
      front_apart = both_apart.0;
      back_apart = both_apart.1;
      front_shorter = omega arith;
      back_shorter = omega arith;
      wdfs = halves_wdfs i ns _ _ _ front back;
      terms = halves_named i ns _ _ _ front back;
      readings = halves_readings i ns _ _ _ front back;
    }
