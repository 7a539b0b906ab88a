use Rattle.std.proofs.Common.{◌≡◌, IsTrue, drop, map}
use Rattle.sk_stem.specs.Rules.{longest}
use Rattle.sk_stem.specs.Tables.{rule_of, is_table}
use Rattle.sk_stem.proofs.rules.rule_for.Given as goal

-- The rule is among those that are left, which are a table too.
abbrev pub invariant-rules : goal.invariant-rules
invariant-rules l = record {
  left : longest l.word (map rule_of (drop l.rule-index l.rules)) ≡ longest l.word (map rule_of l.rules);
  table : IsTrue (is_table (map rule_of (drop l.rule-index l.rules)));
}
