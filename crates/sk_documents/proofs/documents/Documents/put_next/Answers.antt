use Rattle.std.proofs.Common.{◌+◌, ap, sym, ◌∙◌}
use Rattle.sk_model.specs.Edits.{document_at}
use Rattle.sk_documents.proofs.SoundLaws.{next-free}
use Rattle.sk_documents.proofs.documents.Documents.put_next.Goals as goal

pub insert-requires-clause-free : goal.insert-requires-clause-free
insert-requires-clause-free g c = ap (λ d. document_at (c.self.inside.highest + 1) d.live.documents) (sym c.self.view_is) ∙ next-free _ c.self.invariant
