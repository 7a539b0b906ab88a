use Rattle.std.proofs.Common.{arith}
use Rattle.sk_lexer.proofs.FieldLemmas.{room}
use Rattle.sk_lexer.proofs.fields.colon_piece.Goals as goal

pub longer-requires : goal.longer-requires
longer-requires c = room c.in_ok-value.value 1 1048576 c.in_ok-value.ensures.short (omega arith)
