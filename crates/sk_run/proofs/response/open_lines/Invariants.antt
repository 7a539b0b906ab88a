use Rattle.std.proofs.Common.{◌≡◌, ◌++◌, drop, flat_map, string_bytes}
use Rattle.sk_run.specs.Responses.{open_line}
use Rattle.sk_run.proofs.response.open_lines.Given as goal

abbrev pub invariant-searches : goal.invariant-searches
invariant-searches l = string_bytes l.text ++ flat_map open_line (drop l.number-index l.readings) ≡ flat_map open_line l.readings
