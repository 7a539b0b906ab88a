use Rattle.std.proofs.Common.{◌≡◌, drop}
use Rattle.sk_query.specs.Trees.{queries_view}
use Rattle.sk_query.specs.Fits.{are_sound}
use Rattle.sk_query.proofs.limits.+is_sound.Given as goal

-- the parts that were passed over keep their conditions, so those that are left decide
abbrev pub invariant-are_sound-parts : goal.invariant-are_sound-parts
invariant-are_sound-parts l = are_sound l.above (queries_view (drop l.part-index l.parts)) ≡ are_sound l.above (queries_view l.parts)
