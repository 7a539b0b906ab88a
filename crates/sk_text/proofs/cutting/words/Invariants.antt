use Rattle.std.specs.Str.Iter.{chars_rest}
use Rattle.sk_text.proofs.CuttingLemmas.{IsReading}
use Rattle.sk_text.proofs.cutting.words.Given as goal

abbrev pub invariant-chars : goal.invariant-chars
invariant-chars l = IsReading l.text (chars_rest l.rest) l.made l.number l.after l.from l.at
