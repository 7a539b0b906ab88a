use Rattle.std.proofs.Common.{◌≡◌, ◌+◌, drop}
use Rattle.sk_query.specs.Trees.{queries_view}
use Rattle.sk_model.specs.Allowance.{leaves_readings}
use Rattle.sk_sharp.proofs.allowance.+leaf_readings.Given as goal

-- what was added, and what is left, is the whole
abbrev pub invariant-leaves_readings-parts : goal.invariant-leaves_readings-parts
invariant-leaves_readings-parts l =
    l.sum + leaves_readings (queries_view (drop l.part-index l.parts)) l.docs.entries ≡ leaves_readings (queries_view l.parts) l.docs.entries
