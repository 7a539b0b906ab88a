use Rattle.std.proofs.Common.{◌≡◌, map, string_bytes, encode_utf8_all}
use Rattle.sk_text.specs.Characters.{written}
use Rattle.sk_text.proofs.folding.fold_written.Given as goal

abbrev pub invariant-word : goal.invariant-word
invariant-word l = string_bytes l.text ≡ encode_utf8_all (map written l.yielded)
