use Rattle.std.proofs.Common.{◌≡◌, ◌≤◌, true, drop}
use Rattle.sk_query.specs.Trees.{queries_view}
use Rattle.sk_query.specs.Fits.{are_sound, leaves_in}
use Rattle.sk_model.specs.Scores.{scores}
use Rattle.sk_plain.specs.Sums.{nothing_yet, with_scores}
use Rattle.sk_plain.proofs.scores.+score.Given as goal

-- with the scores of the parts that are left it is made of all
abbrev pub invariant-combined-parts : goal.invariant-combined-parts
invariant-combined-parts l = record {
  whole : with_scores l.sums (scores (queries_view (drop l.part-index l.parts)) l.scheme l.factor l.doc) ≡ with_scores nothing_yet (scores (queries_view l.parts) l.scheme l.factor l.doc);
  leaves : leaves_in (queries_view (drop l.part-index l.parts)) ≤ 1024;
  sound : are_sound l.factor (queries_view (drop l.part-index l.parts)) ≡ true;
  few : l.sums.matching ≤ l.part-index;
}
