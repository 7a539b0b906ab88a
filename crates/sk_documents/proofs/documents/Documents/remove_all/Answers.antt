-- The ids are those of the documents that have the term.
use Rattle.std.proofs.Common.{ℕ, List, length, ap, ◌∙◌, arith}
use Rattle.sk_base.specs.Numbers.{Docs}
use Rattle.sk_documents.specs.Removing.{without_ids}
use Rattle.sk_documents.proofs.RemovingLemmas.{without_ids-term, first_within, few_with}
use Rattle.sk_documents.proofs.SoundLaws.{sound-few}
use Rattle.sk_documents.proofs.documents.Documents.remove_all.Goals as goal

pub returns-clause-live : goal.returns-clause-live
returns-clause-live g c =
    let docs = g.K.Keeper.documents c.self.inside.keeper in
    rw (← c.self.view_is) (c.remove_each.ensures.live
    ∙ ap (λ (l : Docs). record { documents = l; highest = c.self.inside.highest }) (
    ap (without_ids c.as_slice.result.now) (ap g.K.Keeper.documents c.ids_with.ensures.same)
    ∙ ap (λ (ids : List ℕ). without_ids ids docs) (c.as_slice.ensures.value ∙ c.in_ok-ids.ensures.ids) ∙ without_ids-term c.args.term.now 0 docs c.self.invariant.rise))

pub returns-clause-first : goal.returns-clause-first
returns-clause-first g c = λ id. rw (← c.self.view_is) (first_within c.args.term.now 0 c.self.inside.highest (g.K.Keeper.documents c.self.inside.keeper) id c.self.invariant.rise c.self.invariant.used)

pub returns-clause-few : goal.returns-clause-few
returns-clause-few g c =
    let docs = g.K.Keeper.documents c.self.inside.keeper in
    omega (arith, ap length c.in_ok-ids.ensures.ids, few_with c.args.term.now docs, sound-few (record { documents = docs; highest = c.self.inside.highest }) c.self.invariant)
