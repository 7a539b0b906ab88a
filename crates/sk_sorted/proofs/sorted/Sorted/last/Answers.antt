-- The last entry has the last id.
use Rattle.std.proofs.Common.{arith, ℕ, ap, ◌∙◌}
use Rattle.sk_sorted.specs.Entries.{top_id}
use Rattle.sk_sorted.proofs.EndLaws.{top_id-read}
use Rattle.sk_sorted.proofs.sorted.Sorted.last.Goals as goal

pub returns-in-Some : goal.returns-in-Some
returns-in-Some g c =
    let item = c.in-Some.ensures.item in
    ap (λ (e : ℕ × g.row.T.Denot). e.0) (item.3.1 c.in-Some.entry.now) ∙ top_id-read 0 c.deref.result.now _ c.in-Some.entry.now (omega (arith, item.3.0)) ∙ ap (top_id 0) (c.deref.ensures.value ∙ c.self.view_is)
