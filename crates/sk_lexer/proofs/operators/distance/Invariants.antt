use Rattle.std.proofs.Common.{◌≡◌, ◌≤◌, drop}
use Rattle.sk_lexer.specs.Shown.{distance_behind}
use Rattle.sk_lexer.proofs.operators.distance.Given as goal

abbrev pub invariant-digits : goal.invariant-digits
invariant-digits l = record {
  rest : distance_behind l.n (drop l.b-index l.digits) ≡ distance_behind 0 l.digits;
  most : l.n ≤ 65535;
}
