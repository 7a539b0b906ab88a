-- What a source wrote into a part of a buffer.
use Rattle.std.proofs.Common.{◌≡◌, ◌≤◌, ◌<◌, ◌+◌, ◌-◌, ℕ, List, ◌++◌, Option, length, take, sym, ap, ◌∙◌, arith}
use Rattle.std.proofs.lemmas.List.{take-append-le, length-take}
use Rattle.std.proofs.Math.Seq.{take-append-add}
use Rattle.std.specs.Io.KnownBytes.{Consumes, IsAtEnd}
use borrow.Rule.Slice.PartMut.{put_mid, post_of}
use Rattle.sk_io.specs.Steps.{WritesBehind}

-- the front of a buffer, with what was written behind `end`
front_written : (old buf : List ℕ) (end k n : ℕ) → end ≤ length old → n ≤ length buf → take (end + n) (put_mid end k old buf) ≡ take end old ++ take n buf
front_written old buf end k n le short =
    let len : length (take end old) ≡ end = simp length-take (omega arith) in
    ap (λ m. take (m + n) (put_mid end k old buf)) (sym len)
    ∙ take-append-add (take end old) (buf ++ post_of end k old) n
    ∙ ap (λ w. take end old ++ w) (take-append-le n buf (post_of end k old) short)

-- what `take` of a source wrote
pub writes_behind : (old buf : List ℕ) (left left' : Option (List ℕ)) (end most n : ℕ) → 0 < most → end + most ≤ length old → length buf ≡ end + most - end
    → n ≤ length buf → Consumes left left' (take n buf) × (n ≡ 0 → 0 < length buf → IsAtEnd left')
    → WritesBehind old (put_mid end (end + most - end) old buf) left left' end most n
writes_behind old buf left left' end most n some fits len short bytes =
    let wide : 0 < length buf = omega arith in
    record {
      bound = omega arith;
      taken = take n buf;
      count = simp length-take (omega arith);
      front = front_written old buf end (end + most - end) n (omega arith) short;
      told = bytes.0;
      at_end = λ none. bytes.1 none wide;
    }
