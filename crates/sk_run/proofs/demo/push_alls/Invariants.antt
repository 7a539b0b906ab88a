use Rattle.std.proofs.Common.{◌≡◌, ◌++◌, string_bytes}
use Rattle.sk_run.specs.Demos.{alls}
use Rattle.sk_run.proofs.demo.push_alls.Given as goal

-- so many times so far
abbrev pub invariant-alls : goal.invariant-alls
invariant-alls l = string_bytes l.body ≡ string_bytes l.fn.body ++ alls l.counter
