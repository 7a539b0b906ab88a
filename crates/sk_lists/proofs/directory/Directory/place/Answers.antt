-- The last ids rise, so the chunks that end below the id stand before the others.
use Rattle.std.proofs.Common.{rules, ℕ, ◌<◌, ◌≤◌, nat_lt, [], length, get_or, sym, subst, ◌∙◌, arith, le_refl}
use Rattle.std.proofs.lemmas.Bool.{ltb-true, ltb-false}
use Rattle.std.proofs.lemmas.List.Sorted.{IsPartitionPoint-from_clause}
use Rattle.sk_sorted.specs.Entries.{top_id}
use Rattle.sk_sorted.specs.Runs.{RunsRise}
use Rattle.sk_chunks.specs.Postings.{Postings}
use Rattle.sk_lists.specs.Lists.{Runs}
use Rattle.sk_sorted.proofs.RunEditLaws.{tops_parted}
use Rattle.sk_lists.proofs.directory.Directory.place.Goals as goal

pub returns-clause-before : goal.returns-clause-before
returns-clause-before c =
    let rs = c.as_slice.result.now in
    let up : RunsRise 0 rs = subst (RunsRise 0) (sym c.as_slice.ensures.value) c.self.invariant.sound.rise in
    let point = IsPartitionPoint-from_clause (λ (r : Postings). nat_lt (top_id 0 r) c.args.id) rs c.partition_point.result c.partition_point.ensures.partitioned (tops_parted c.args.id rs up) (λ a r q k. search rules) in
    subst (λ (s : Runs). (k : ℕ) → k < c.partition_point.result → top_id 0 (get_or s k []) < c.args.id) (c.as_slice.ensures.value ∙ c.self.view_is)
    (λ k lt. ltb-true (top_id 0 (get_or rs k [])) c.args.id (point.0 k [] (omega arith) lt))

pub returns-clause-at : goal.returns-clause-at
returns-clause-at c =
    let rs = c.as_slice.result.now in
    let up : RunsRise 0 rs = subst (RunsRise 0) (sym c.as_slice.ensures.value) c.self.invariant.sound.rise in
    let point = IsPartitionPoint-from_clause (λ (r : Postings). nat_lt (top_id 0 r) c.args.id) rs c.partition_point.result c.partition_point.ensures.partitioned (tops_parted c.args.id rs up) (λ a r q k. search rules) in
    subst (λ (s : Runs). c.partition_point.result < length s → c.args.id ≤ top_id 0 (get_or s c.partition_point.result [])) (c.as_slice.ensures.value ∙ c.self.view_is)
    (λ lt. ltb-false (top_id 0 (get_or rs c.partition_point.result [])) c.args.id (point.1 c.partition_point.result [] (le_refl c.partition_point.result) lt))
