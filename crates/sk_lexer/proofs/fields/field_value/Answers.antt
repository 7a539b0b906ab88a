use Rattle.std.proofs.Common.{length, arith}
use Rattle.sk_grammar.specs.Pieces.{value_piece}
use Rattle.sk_grammar.proofs.PieceLaws.{value_takes}
use Rattle.sk_lexer.proofs.FieldLemmas.{short_ok, length-le-byte_len}
use Rattle.sk_lexer.proofs.fields.field_value.Goals as goal

pub returns-in-Some-clause-short : goal.returns-in-Some-clause-short
returns-in-Some-clause-short c =
    let few = length-le-byte_len c.args.cs.now in
    short_ok c.value_piece.result (value_piece c.args.field c.in-Some.found.now.kind c.args.cs.now) (length c.args.cs.now) 1048576 c.value_piece.ensures
    (value_takes c.args.field c.in-Some.found.now.kind c.args.cs.now) (omega (arith, few))
