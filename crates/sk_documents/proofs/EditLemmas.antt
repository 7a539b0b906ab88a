-- A document in the place of the first that has a term.
use Rattle.std.proofs.Common.{◌≡◌, ℕ, ◌≤◌, max, List, slice_get, None, Some, sym, ap, ◌∙◌, arith}
use Rattle.sk_base.specs.declared.record.Reply.TheVariants as Reply
use Rattle.sk_base.specs.Numbers.{Docs}
use Rattle.sk_model.specs.Documents.{Document}
use Rattle.sk_model.specs.Edits.{Live, without_term, first_with, with_next, next_reply, with_document, with_first, first_reply, put_document}
use Rattle.sk_documents.specs.Removing.{ids_with}
use Rattle.sk_documents.proofs.RemovingLemmas.{first_with-ids, empty_from, without_term-none}

-- `mid` is what is left without the documents that have the term, and these are their ids
module _ (live mid : Live) (t : List ℕ) (ids : List ℕ) (left : mid ≡ record { documents = without_term t live.documents; highest = live.highest }) (are : ids ≡ ids_with t live.documents) where
  -- where there is none nothing was removed
  none_removed : slice_get ids 0 ≡ None → mid ≡ live
  none_removed none = left ∙ ap (λ (docs : Docs). record { documents = docs; highest = live.highest }) (without_term-none t live.documents (sym are ∙ empty_from ids none))

  first_is : slice_get ids 0 ≡ first_with t live.documents
  first_is = ap (λ (w : List ℕ). slice_get w 0) are ∙ sym (first_with-ids t live.documents)

  pub next-first : (d : Document) → slice_get ids 0 ≡ None → with_next mid d ≡ with_first live d t (first_with t live.documents)
  next-first d none = ap (λ (l : Live). with_next l d) (none_removed none) ∙ ap (with_first live d t) (sym none ∙ first_is)

  pub next_reply-first : slice_get ids 0 ≡ None → next_reply mid ≡ first_reply live (first_with t live.documents)
  next_reply-first none = ap next_reply (none_removed none) ∙ ap (first_reply live) (sym none ∙ first_is)

  pub first_some : (id : ℕ) → slice_get ids 0 ≡ Some id → first_with t live.documents ≡ Some id
  first_some id some = sym first_is ∙ some

  pub document-first : (d : Document) (id : ℕ) → slice_get ids 0 ≡ Some id → id ≤ live.highest → with_document mid id d ≡ with_first live d t (first_with t live.documents)
  document-first d id some le =
      let same : max live.highest id ≡ live.highest = omega arith in
      ap (λ (l : Live). with_document l id d) left
      ∙ ap (λ (n : ℕ). record { documents = put_document id d (without_term t live.documents); highest = n }) same
      ∙ ap (with_first live d t) (sym (first_some id some))

  pub reply-first : (id : ℕ) → slice_get ids 0 ≡ Some id → Reply.Id id ≡ first_reply live (first_with t live.documents)
  reply-first id some = ap (first_reply live) (sym (first_some id some))
