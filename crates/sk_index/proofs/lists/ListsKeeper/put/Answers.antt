-- What each list is once it has the document.
use Rattle.std.proofs.Common.{ap, ◌∙◌}
use Rattle.sk_model.specs.Edits.{document_at, put_document}
use Rattle.sk_index.specs.Unpacked.{Kept}
use Rattle.sk_index.proofs.lists.ListsKeeper.put.Goals as goal

pub put_into-requires-clause-free : goal.put_into-requires-clause-free
put_into-requires-clause-free c = ap (λ (k : Kept). document_at c.args.id k.documents) c.self.view_is ∙ c.requires.free

pub invariant_of-result : goal.invariant_of-result
invariant_of-result c = (c.in_ok-put_into.ensures.whole, c.self.invariant.1)

pub returns-clause-documents : goal.returns-clause-documents
returns-clause-documents c = c.in_ok-put_into.ensures.documents ∙ ap (λ (k : Kept). put_document c.args.id c.args.doc k.documents) c.self.view_is
