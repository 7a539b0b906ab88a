-- The last ids rise, so the pieces that end below the id stand before the others.
use Rattle.std.proofs.Common.{List, rules, ℕ, ◌-◌, ◌/◌, ◌<◌, ◌≤◌, nat_lt, [], length, get_or, refl, sym, subst, ◌∙◌, arith, le_refl}
use Rattle.std.proofs.lemmas.Bool.{ltb-true, ltb-false}
use Rattle.std.proofs.lemmas.List.Sorted.{IsPartitionPoint-from_clause}
use Rattle.sk_sorted.specs.Entries.{top_id}
use Rattle.sk_sorted.specs.Runs.{RunsRise}
use Rattle.sk_sorted.proofs.RunLaws.{tops_rise}
use Rattle.sk_sorted.proofs.RunEditLaws.{tops_parted}
use Rattle.sk_pieces.proofs.pieces.Pieces.place.Goals as goal

-- where the piece before a place ends below the id, so do all before it
all_before : {X : Type 0} (id at : ℕ) (rs : List (List (ℕ × X))) → RunsRise 0 rs → at < length rs → (0 < at → top_id 0 (get_or rs (at - 1) []) < id)
    → (k : ℕ) → k < at → top_id 0 (get_or rs k []) < id
all_before id at rs up inside before k lt = omega (arith, before (omega (arith, lt)), tops_rise 0 rs k (at - 1) [] up (omega (arith, lt)) (omega (arith, lt, inside)))

pub returns-then-is_place-clause-before : goal.returns-then-is_place-clause-before
returns-then-is_place-clause-before g c =
    let rs = c.as_slice-pieces.result.now in
    let up : RunsRise 0 rs = subst (RunsRise 0) (sym c.as_slice-pieces.ensures.value) c.self.invariant.sound.rise in
    subst (λ (s : List (List (ℕ × g.row.T.Denot))). (k : ℕ) → k < c.saturating_sub.result / 128 → top_id 0 (get_or s k []) < c.args.id) (c.as_slice-pieces.ensures.value ∙ c.self.view_is)
    (all_before c.args.id (c.saturating_sub.result / 128) rs up (c.if-is_place.ensures.within refl) (c.if-is_place.ensures.before refl))

pub returns-clause-before : goal.returns-clause-before
returns-clause-before g c =
    let rs = c.as_slice-pieces.result.now in
    let up : RunsRise 0 rs = subst (RunsRise 0) (sym c.as_slice-pieces.ensures.value) c.self.invariant.sound.rise in
    let point = IsPartitionPoint-from_clause (λ (r : List (ℕ × g.row.T.Denot)). nat_lt (top_id 0 r) c.args.id) rs c.partition_point.result c.partition_point.ensures.partitioned (tops_parted c.args.id rs up) (λ a r q k. search rules) in
    subst (λ (s : List (List (ℕ × g.row.T.Denot))). (k : ℕ) → k < c.partition_point.result → top_id 0 (get_or s k []) < c.args.id) (c.as_slice-pieces.ensures.value ∙ c.self.view_is)
    (λ k lt. ltb-true (top_id 0 (get_or rs k [])) c.args.id (point.0 k [] (omega arith) lt))

pub returns-clause-at : goal.returns-clause-at
returns-clause-at g c =
    let rs = c.as_slice-pieces.result.now in
    let up : RunsRise 0 rs = subst (RunsRise 0) (sym c.as_slice-pieces.ensures.value) c.self.invariant.sound.rise in
    let point = IsPartitionPoint-from_clause (λ (r : List (ℕ × g.row.T.Denot)). nat_lt (top_id 0 r) c.args.id) rs c.partition_point.result c.partition_point.ensures.partitioned (tops_parted c.args.id rs up) (λ a r q k. search rules) in
    subst (λ (s : List (List (ℕ × g.row.T.Denot))). c.partition_point.result < length s → c.args.id ≤ top_id 0 (get_or s c.partition_point.result [])) (c.as_slice-pieces.ensures.value ∙ c.self.view_is)
    (λ lt. ltb-false (top_id 0 (get_or rs c.partition_point.result [])) c.args.id (point.1 c.partition_point.result [] (le_refl c.partition_point.result) lt))
