use Rattle.std.proofs.Common.{◌≡◌, ◌≤◌, false, drop}
use Rattle.sk_grammar.specs.Characters.{group_len}
use Rattle.sk_lexer.proofs.GroupLemmas.{ends_at}
use Rattle.sk_lexer.proofs.runs.group_len.Given as goal

abbrev pub invariant-cs : goal.invariant-cs
invariant-cs l = record {
  reach : ends_at l.end l.i (group_len l.after (drop l.i l.cs)) ≡ group_len false l.cs;
  within : l.end ≤ l.i;
}
