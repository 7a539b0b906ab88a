use Rattle.std.proofs.Common.{◌≡◌, ◌++◌, ◌+◌, drop, string_bytes}
use Rattle.sk_run.specs.Found.{hit_lines, found_text}
use Rattle.sk_run.proofs.found.found_lines.Given as goal

abbrev pub invariant-hits : goal.invariant-hits
invariant-hits l = string_bytes l.text ++ hit_lines (l.first + l.i) (drop l.i l.hits) ≡ found_text l.first l.report
