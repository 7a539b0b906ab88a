use Rattle.std.proofs.Common.{◌≡◌, ◌<◌, ◌+◌, ◌-◌, length, sym, ap, ◌∙◌, subst, arith, length-drop}
use Rattle.sk_grammar.specs.Pieces.{Piece}
use Rattle.sk_grammar.proofs.PieceLaws.{Takes}
use Rattle.sk_lexer.specs.Shown.{shown}
use Rattle.sk_lexer.proofs.WalkLemmas.{some_left, front_takes, reached_next}
use Rattle.sk_lexer.proofs.walk.tokens_in.Goals as goal

pub front-here-requires : goal.front-here-requires
front-here-requires c =
    (subst (λ (p : Piece). Takes (length c.pieces.rest.now) p) (sym c.in_ok-kind.ensures)
    (front_takes c.args.schema.now c.pieces.previous c.pieces.rest.now (some_left (length c.pieces.rest.now) (sym c.is_empty.ensures ∙ c.pieces-test.true)))).whole

pub drop_front-rest-requires : goal.drop_front-rest-requires
drop_front-rest-requires c =
    (subst (λ (p : Piece). Takes (length c.pieces.rest.now) p) (sym c.in_ok-kind.ensures)
    (front_takes c.args.schema.now c.pieces.previous c.pieces.rest.now (some_left (length c.pieces.rest.now) (sym c.is_empty.ensures ∙ c.pieces-test.true)))).whole

pub pieces-smaller : goal.pieces-smaller
pieces-smaller c =
    let some = some_left (length c.pieces.rest.now) (sym c.is_empty.ensures ∙ c.pieces-test.true) in
    let takes : Takes (length c.pieces.rest.now) (shown c.in_ok-kind.field-0) = subst (λ (p : Piece). Takes (length c.pieces.rest.now) p) (sym c.in_ok-kind.ensures)
    (front_takes c.args.schema.now c.pieces.previous c.pieces.rest.now some) in
    let first = takes.some in
    let left : length c.drop_front-rest.result.now ≡ length c.pieces.rest.now - c.in_ok-kind.field-0.size =
    ap length c.drop_front-rest.ensures ∙ length-drop c.in_ok-kind.field-0.size c.pieces.rest.now in
    let less : length c.drop_front-rest.result.now < length c.pieces.rest.now = omega (arith, first, left, some) in
    less

pub pieces-preserved : goal.pieces-preserved
pieces-preserved c =
    reached_next c.args.schema.now c.args.cs.now c.pieces.rest.now c.front-here.result.now c.drop_front-rest.result.now c.pieces.made c.add.new.made c.pieces.previous c.last_of-previous.result
    c.pieces.from _ (shown c.in_ok-kind.field-0) c.pieces.invariant (some_left (length c.pieces.rest.now) (sym c.is_empty.ensures ∙ c.pieces-test.true)) c.in_ok-kind.ensures
    c.front-here.ensures c.drop_front-rest.ensures (ap (λ n. c.pieces.from + n) c.byte_len.ensures) c.last_of-previous.ensures c.in_ok-add.ensures
