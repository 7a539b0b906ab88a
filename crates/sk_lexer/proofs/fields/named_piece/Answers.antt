use Rattle.std.proofs.Common.{◌≤◌, sym, subst, arith}
use Rattle.sk_grammar.specs.Cutting.{byte_len}
use Rattle.sk_lexer.proofs.FieldLemmas.{room, byte_len-drop, length-le-byte_len}
use Rattle.sk_lexer.proofs.fields.named_piece.Goals as goal

pub colon_piece-requires : goal.colon_piece-requires
colon_piece-requires c =
    let part = byte_len-drop c.args.n c.args.cs.now in
    subst (λ xs. byte_len xs ≤ 1048576) (sym c.drop_front-behind.ensures) (omega (arith, part))

pub longer-requires : goal.longer-requires
longer-requires c =
    let few = length-le-byte_len c.args.cs.now in
    room c.in_ok-value-in-Some.value c.args.n 1048577 c.in_ok-value-in-Some.ensures.short (omega (arith, few))
