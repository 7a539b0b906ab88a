-- The entries rise, so what is found is the place or the gap.
use Rattle.std.proofs.Common.{rules, arith, ℕ}
use Rattle.std.proofs.lemmas.List.Sorted.{answers_always}
use Rattle.sk_sorted.proofs.PlaceLaws.{searched}
use Rattle.sk_sorted.proofs.EndLaws.{gap_past}
use Rattle.sk_chunks.proofs.place.place_of.Goals as goal

pub returns-then-last-id-clause-absent : goal.returns-then-last-id-clause-absent
returns-then-last-id-clause-absent c = gap_past c.args.entries.now c.args.id c.requires.rise (omega (arith, c.requires.top))

pub returns : goal.returns
returns c =
    let facts = c.binary_search_by_key.ensures in
    let by_key = facts.position (λ (e : ℕ × ℕ). e.0) (answers_always _ _ _ (λ f a r k called. search rules)) in
    searched c.args.entries.now c.requires.rise c.args.id (0, 0) c.binary_search_by_key.result facts.bound by_key
