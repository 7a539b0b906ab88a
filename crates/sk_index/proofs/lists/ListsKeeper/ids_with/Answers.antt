-- The ids in the list of the term are those of the documents that have it.
use Rattle.sk_sorted.specs.Runs.{flat}
use Rattle.std.proofs.Common.{IfOk, ap, subst, ◌≡◌, ◌∙◌}
use Rattle.sk_sorted.specs.Entries.{ids_of}
use Rattle.sk_documents.specs.Removing.{ids_with}
use Rattle.sk_index.specs.Unpacked.{Kept, unpacked_all}
use Rattle.sk_index.proofs.NumberLemmas.{ids-postings}
use Rattle.sk_index.proofs.lists.ListsKeeper.ids_with.Goals as goal

pub returns-clause-ids : goal.returns-clause-ids
returns-clause-ids c =
    let docs = unpacked_all c.self.inside.terms.terms c.self.inside.slots c.self.inside.payloads (flat c.self.inside.map) in
    subst (λ w. IfOk c.ids.result (λ ids. ids.items ≡ w))
    (ap ids_of (c.self.invariant.0.stand.lists c.args.term.now) ∙ ids-postings c.args.term.now docs ∙ ap (λ (k : Kept). ids_with c.args.term.now k.documents) c.self.view_is) c.ids.ensures.ok
