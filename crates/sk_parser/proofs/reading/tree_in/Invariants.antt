use Rattle.std.proofs.Common.{◌≡◌, drop}
use Rattle.sk_grammar.specs.Brackets.{levels_of}
use Rattle.sk_grammar.specs.Faults.{kinds_of}
use Rattle.sk_parser.specs.Sound.{HaveSoundRanges, outside_of}
use Rattle.sk_parser.specs.Stack.{ends_as}
use Rattle.sk_parser.proofs.reading.tree_in.Given as goal

abbrev pub invariant-tokens : goal.invariant-tokens
invariant-tokens l = record {
  ends : ends_as l.schema l.join l.stack (levels_of (kinds_of (drop l.i l.tokens))) ≡ outside_of l.schema l.join (kinds_of l.tokens);
  sound : HaveSoundRanges l.schema (drop l.i l.tokens);
}
