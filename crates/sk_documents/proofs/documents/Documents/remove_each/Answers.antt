-- One document less.
use Rattle.std.proofs.Common.{◌≡◌, ℕ, ◌+◌, ◌-◌, drop, get_or, refl, arith, ap, ◌∙◌}
use Rattle.sk_model.specs.Edits.{Live, without_id}
use Rattle.sk_documents.specs.Removing.{without_ids}
use Rattle.sk_documents.proofs.RemovingLemmas.{removes_on}
use Rattle.sk_documents.proofs.documents.Documents.remove_each.Goals as goal

pub ids-preserved : goal.ids-preserved
ids-preserved g c =
    let inv = c.ids.invariant in
    let next = c.ids.i - 1 in
    let back : c.ids.i ≡ next + 1 = omega (arith, c.ids-test.true) in
    let left : c.ids.self.live.documents ≡ without_ids (drop (next + 1) c.args.ids.now) c.args.self.now.live.documents =
    ap (λ (l : Live). l.documents) inv.0 ∙ ap (λ (n : ℕ). without_ids (drop n c.args.ids.now) c.args.self.now.live.documents) back in
    let one = without_id (get_or c.args.ids.now next 0) c.ids.self.live.documents in (
      c.remove.ensures.live ∙ (λ i. record {
        documents = removes_on c.args.ids.now next 0 c.args.self.now.live.documents c.ids.self.live.documents one (omega (arith, inv.2, c.ids-test.true)) left refl i;
        highest = (ap (λ (l : Live). l.highest) inv.0) i;
      }),
      c.remove.ensures.schema ∙ inv.1,
      omega (arith, inv.2),
      c.remove.ensures.parts ∙ inv.3,
    )
