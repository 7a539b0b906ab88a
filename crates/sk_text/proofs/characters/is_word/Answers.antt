use Rattle.std.proofs.Common.{arith}
use Rattle.std.proofs.lemmas.Bool.Decides.{nat_tests}
use Rattle.sk_text.proofs.AsciiLaws.{is_word_char-ascii}
use Rattle.sk_text.proofs.characters.is_word.Goals as goal

pub returns-then-is_ascii_alphanumeric : goal.returns-then-is_ascii_alphanumeric
returns-then-is_ascii_alphanumeric c = grind (arith, nat_tests, is_word_char-ascii)

pub returns-else-is_ascii_alphanumeric : goal.returns-else-is_ascii_alphanumeric
returns-else-is_ascii_alphanumeric c = grind (arith, nat_tests, is_word_char-ascii)
