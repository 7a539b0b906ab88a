-- What is deleted by a term is what the edit says.
use Rattle.std.proofs.Common.{◌≡◌, ℕ, List, IfOk, sym, subst, ◌∙◌}
use Rattle.sk_base.specs.declared.record.Edit.{Edit}
use Rattle.sk_model.specs.Edits.{reply_to}
use Rattle.sk_documents.proofs.documents.Documents.apply.Goals as goal

pub returns-in-DeleteBy-clause-reply : goal.returns-in-DeleteBy-clause-reply
returns-in-DeleteBy-clause-reply g c =
    subst (λ (e : Edit). IfOk c.delete_by.result (λ p. p.1 ≡ reply_to c.args.self.live e)) (sym c.in-DeleteBy.is)
    (subst (λ (t : List ℕ). IfOk c.delete_by.result (λ p. p.1 ≡ reply_to c.args.self.live (Edit.DeleteBy t))) (c.as_bytes-in-DeleteBy.ensures.value ∙ c.as_str-in-DeleteBy.ensures) c.delete_by.ensures.reply)
