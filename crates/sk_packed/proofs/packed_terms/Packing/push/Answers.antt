-- One term more.
use Rattle.std.proofs.Common.{◌≡◌, ◌+◌, ◌++◌, ◌∷◌, [], length, ap, ◌∙◌, arith}
use Rattle.sk_packed.specs.declared.packed_terms.PackedTerm.{PackedTerm}
use Rattle.sk_packed.proofs.PackedLemmas.{terms-push, packed-push}
use Rattle.sk_packed.proofs.packed_terms.Packing.push.Goals as goal

pub invariant_of-self-2 : goal.invariant_of-self-2
invariant_of-self-2 c =
    let x : PackedTerm = record { number = c.in_ok-number.number; wdf = c.args.wdf; end = c.in_ok-end.end } in
    let end : c.in_ok-end.end ≡ length c.self.inside.positions.items + length c.args.positions.now = omega (arith, c.in_ok-end.ensures, c.len.ensures, c.self.inside.positions.ok.0) in
    packed-push c.self.inside.terms.items c.push_reserved.new.self.items c.self.inside.positions.items c.extend_from_slice.new.self.items c.args.positions.now x c.self.invariant
    (c.push_reserved.ensures.items ∙ ap (λ w. w ++ x ∷ []) c.reserve.ensures.items)
    c.in_ok-extend_from_slice.ensures.items end c.requires.rising

pub returns-clause-ok : goal.returns-clause-ok
returns-clause-ok c =
    let x : PackedTerm = record { number = c.in_ok-number.number; wdf = c.args.wdf; end = c.in_ok-end.end } in
    let end : c.in_ok-end.end ≡ length c.self.inside.positions.items + length c.args.positions.now = omega (arith, c.in_ok-end.ensures, c.len.ensures, c.self.inside.positions.ok.0) in
    terms-push c.self.inside.terms.items c.push_reserved.new.self.items c.self.inside.positions.items c.extend_from_slice.new.self.items c.args.positions.now x c.self.invariant
    (c.push_reserved.ensures.items ∙ ap (λ w. w ++ x ∷ []) c.reserve.ensures.items)
    c.in_ok-extend_from_slice.ensures.items end
    ∙ (λ i. c.self.view_is i ++ record { number = c.in_ok-number.ensures i; wdf = c.args.wdf; positions = c.args.positions.now } ∷ [])
