use Rattle.std.proofs.Common.{◌<◌, ◌^◌, ◌+◌, ◌*◌, ◌∙◌, lit<, arith}
use Rattle.sk_dict.proofs.HeadLemmas.{head_more, followed_more, head_of-start, head_of-end}
use Rattle.sk_dict.proofs.terms.head_of.Goals as goal

pub overflow_add-head : goal.overflow_add-head
overflow_add-head c =
    let byte : c.from.result < 256 = omega (arith, c.from.ensures, c.byte_at-byte.ensures, c.type_inv.bytes c.bytes.i) in
    let more : c.bytes.head * 256 + c.from.result < 2 ^ 64 = (head_more c.bytes.head c.bytes.i c.from.result c.bytes-test.true c.bytes.invariant.small byte).1 in
    omega arith

pub overflow_mul-head : goal.overflow_mul-head
overflow_mul-head c =
    let more : c.bytes.head * 256 + 0 < 2 ^ 64 = (head_more c.bytes.head c.bytes.i 0 c.bytes-test.true c.bytes.invariant.small (lit< tt)).1 in
    omega arith

pub bytes-init : goal.bytes-init
bytes-init c = record { is = head_of-start c.args.bytes.now; small = omega arith }

pub bytes-preserved : goal.bytes-preserved
bytes-preserved c =
    let byte : c.from.result < 256 = omega (arith, c.from.ensures, c.byte_at-byte.ensures, c.type_inv.bytes c.bytes.i) in
    record {
      is = followed_more c.bytes.head c.bytes.i c.from.result c.args.bytes.now c.bytes-test.true (c.from.ensures ∙ c.byte_at-byte.ensures) ∙ c.bytes.invariant.is;
      small = (head_more c.bytes.head c.bytes.i c.from.result c.bytes-test.true c.bytes.invariant.small byte).0;
    }

pub returns-clause-value : goal.returns-clause-value
returns-clause-value c = head_of-end c.bytes.head c.bytes.i c.args.bytes.now (omega arith) c.bytes.invariant.is
