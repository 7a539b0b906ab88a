-- The last entry has the last id.
use Rattle.std.proofs.Common.{arith, ℕ, ap, ◌∙◌}
use Rattle.sk_sorted.proofs.EndLaws.{top_id-read}
use Rattle.sk_chunks.proofs.place.last_of.Goals as goal

pub returns-in-Some : goal.returns-in-Some
returns-in-Some c =
    let item = c.in-Some.ensures.item in
    c.id.ensures ∙ ap (λ (e : ℕ × ℕ). e.0) (item.3.1 c.in-Some.entry.now) ∙ top_id-read 0 c.args.entries.now _ c.in-Some.entry.now (omega (arith, item.3.0))
