use Rattle.std.proofs.Common.{◌≡◌, ◌≤◌, true, drop}
use Rattle.sk_query.specs.Trees.{queries_view}
use Rattle.sk_query.specs.Fits.{are_sound, leaves_in}
use Rattle.sk_model.specs.Bounds.{ceils}
use Rattle.sk_weight.specs.Together.{nothing_yet, with_bounds}
use Rattle.sk_weight.proofs.bounds.+ceil.Given as goal

-- with the bounds of the parts that are left it is made of all
abbrev pub invariant-ceils-parts : goal.invariant-ceils-parts
invariant-ceils-parts g l = record {
  whole : with_bounds l.bounds (ceils (queries_view (drop l.part-index l.parts)) l.scheme l.factor (g.S.Stats.documents l.stats))
      ≡ with_bounds nothing_yet (ceils (queries_view l.parts) l.scheme l.factor (g.S.Stats.documents l.stats));
  leaves : leaves_in (queries_view (drop l.part-index l.parts)) ≤ 1024;
  sound : are_sound l.factor (queries_view (drop l.part-index l.parts)) ≡ true;
}
