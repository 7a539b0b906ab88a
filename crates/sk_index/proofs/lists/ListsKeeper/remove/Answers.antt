-- No list has the document.
use Rattle.sk_sorted.specs.Runs.{flat}
use Rattle.std.proofs.Common.{◌≡◌, None, Some, is_some, option_map, [], sym, ap, subst, ◌∙◌}
use Rattle.sk_sorted.proofs.EntryLaws.{without-absent}
use Rattle.sk_sorted.specs.Entries.{found}
use Rattle.sk_model.specs.Edits.{document_at, without_id}
use Rattle.sk_index.specs.Unpacked.{Kept, AreWhole, unpacked, unpacked_all}
use Rattle.sk_index.proofs.UnpackedLemmas.{AreWhole-without, documents-without, unpacked-found, unpacked-without, found-known, found-ordered}
use Rattle.sk_index.proofs.lists.ListsKeeper.remove.Goals as goal

pub returns-in_default-clause-left : goal.returns-in_default-clause-left
returns-in_default-clause-left c =
    let old = c.self.inside in
    ap (unpacked_all old.terms.terms old.slots old.payloads) c.take.ensures.after ∙ unpacked-without old.terms.terms old.slots old.payloads c.args.id (flat old.map) ∙ ap (λ (k : Kept). without_id c.args.id k.documents) c.self.view_is

pub returns-in_default-clause-there : goal.returns-in_default-clause-there
returns-in_default-clause-there c =
    let old = c.self.inside in
    let none : found c.args.id (flat old.map) ≡ None = sym c.take.ensures.gone ∙ c.in_default.is in
    sym (ap (λ o. is_some (option_map (unpacked old.terms.terms old.slots old.payloads c.args.id) o)) none) ∙ sym (ap is_some (unpacked-found old.terms.terms old.slots old.payloads c.args.id (flat old.map))) ∙ ap (λ (k : Kept). is_some (document_at c.args.id k.documents)) c.self.view_is

pub take_out_all-requires-clause-known : goal.take_out_all-requires-clause-known
take_out_all-requires-clause-known c =
    let old = c.self.inside in
    found-known old.terms.terms old.slots old.payloads c.args.id c.in-Some.packed (flat old.map) c.self.invariant.0.known (sym c.take.ensures.gone ∙ c.in-Some.is)

pub take_out_all-requires-clause-rising : goal.take_out_all-requires-clause-rising
take_out_all-requires-clause-rising c =
    let old = c.self.inside in
    found-ordered old.terms.terms old.slots old.payloads c.args.id c.in-Some.packed (flat old.map) c.self.invariant.0.ordered (sym c.take.ensures.gone ∙ c.in-Some.is)

pub invariant_of-self-2 : goal.invariant_of-self-2
invariant_of-self-2 c =
    let old = c.self.inside in (
      AreWhole-without old.all c.remove.new.self old.terms c.take_out_all.new.self old.slots c.clear_all.new.self old.payloads c.clear.new.self (flat old.map) (flat c.take.new.self) c.args.id c.in-Some.packed c.self.invariant.0
          c.take.ensures.after c.take_out_all.ensures.terms c.clear_all.ensures.others c.clear.ensures.others c.remove.ensures.after c.take_out_all.ensures.takes c.clear_all.ensures.clears
          (sym c.take.ensures.gone ∙ c.in-Some.is),
      c.self.invariant.1,
    )

pub returns-clause-left : goal.returns-clause-left
returns-clause-left c =
    let old = c.self.inside in
    documents-without old.all c.remove.new.self old.terms c.take_out_all.new.self old.slots c.clear_all.new.self old.payloads c.clear.new.self (flat old.map) (flat c.take.new.self) c.args.id c.in-Some.packed c.self.invariant.0
    c.take.ensures.after c.take_out_all.ensures.terms c.clear_all.ensures.others c.clear.ensures.others
    ∙ ap (λ (k : Kept). without_id c.args.id k.documents) c.self.view_is

pub returns-clause-there : goal.returns-clause-there
returns-clause-there c =
    let old = c.self.inside in
    let some : found c.args.id (flat old.map) ≡ Some c.in-Some.packed = sym c.take.ensures.gone ∙ c.in-Some.is in
    sym (ap (λ o. is_some (option_map (unpacked old.terms.terms old.slots old.payloads c.args.id) o)) some) ∙ sym (ap is_some (unpacked-found old.terms.terms old.slots old.payloads c.args.id (flat old.map))) ∙ ap (λ (k : Kept). is_some (document_at c.args.id k.documents)) c.self.view_is

-- where there is no such document nothing is taken out
pub invariant_of-self : goal.invariant_of-self
invariant_of-self c =
    let old = c.self.inside in
    let none : found c.args.id (flat old.map) ≡ None = sym c.take.ensures.gone ∙ c.in_default.is in
    let same : flat c.take.new.self ≡ flat old.map = c.take.ensures.after ∙ without-absent c.args.id (flat old.map) none in
    subst (λ es. AreWhole old.all old.terms old.slots old.payloads es × (old.none ≡ [])) (sym same) c.self.invariant
