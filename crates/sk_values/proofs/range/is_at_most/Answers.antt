use Rattle.std.proofs.Common.{◌≡◌, nat_le, length, ap, ◌∙◌, arith}
use Rattle.std.specs.Ordering.{is_le}
use Rattle.sk_values.proofs.ByteLaws.{lengths_decide, numbers_decide}
use Rattle.sk_values.proofs.range.is_at_most.Goals as goal

pub returns-then-b-eq8 : goal.returns-then-b-eq8
returns-then-b-eq8 c =
    let long : length c.args.a.now ≡ length c.args.b.now = omega (arith, c.if-a-eq8.true, c.if-b-eq8.true) in
    (λ i. nat_le (c.number.ensures i) (c.number-then-b-eq8.ensures i)) ∙ numbers_decide 0 c.args.a.now c.args.b.now long (λ k. (c.type_inv.a k).fits) (λ k. (c.type_inv.b k).fits)

pub returns : goal.returns
returns c = lengths_decide c.bytes.i c.args.a.now c.args.b.now c.bytes.invariant.first c.bytes.invariant.second (omega (arith, c.min-both.ensures, c.bytes-test.false)) ∙ ap is_le c.bytes.invariant.same
