-- The first id that was removed is that of the first document that has the term.
use Rattle.std.proofs.Common.{◌≡◌, ℕ, List, slice_get, None, Some, option_copied, IfOk, sym, ap, ◌∙◌, subst}
use Rattle.sk_documents.proofs.EditLemmas.{next-first, next_reply-first, first_some, document-first, reply-first}
use Rattle.sk_documents.proofs.documents.Documents.put_first.Goals as goal

pub returns-in_default-clause-live : goal.returns-in_default-clause-live
returns-in_default-clause-live g c =
    let none : slice_get c.in_ok-ids.ids.items 0 ≡ None = ap (λ (l : List ℕ). slice_get l 0) (sym c.deref.ensures.value) ∙ sym c.first.ensures.value ∙ ap option_copied c.in_default.is in
    subst (λ w. IfOk c.put_next.result (λ p. p.0.live ≡ w)) (next-first c.args.self.live c.remove_all.new.self.live c.args.term.now c.in_ok-ids.ids.items c.in_ok-ids.ensures.live c.in_ok-ids.ensures.ids c.args.doc none) c.put_next.ensures.live

pub returns-in_default-clause-reply : goal.returns-in_default-clause-reply
returns-in_default-clause-reply g c =
    let none : slice_get c.in_ok-ids.ids.items 0 ≡ None = ap (λ (l : List ℕ). slice_get l 0) (sym c.deref.ensures.value) ∙ sym c.first.ensures.value ∙ ap option_copied c.in_default.is in
    subst (λ w. IfOk c.put_next.result (λ p. p.1 ≡ w)) (next_reply-first c.args.self.live c.remove_all.new.self.live c.args.term.now c.in_ok-ids.ids.items c.in_ok-ids.ensures.live c.in_ok-ids.ensures.ids none) c.put_next.ensures.reply

pub put-requires-clause-id : goal.put-requires-clause-id
put-requires-clause-id g c =
    let some : slice_get c.in_ok-ids.ids.items 0 ≡ Some c.in-Some.first.now = ap (λ (l : List ℕ). slice_get l 0) (sym c.deref.ensures.value) ∙ sym c.first.ensures.value ∙ ap option_copied c.in-Some.is in
    (c.in_ok-ids.ensures.first c.in-Some.first.now (first_some c.args.self.live c.remove_all.new.self.live c.args.term.now c.in_ok-ids.ids.items c.in_ok-ids.ensures.live c.in_ok-ids.ensures.ids c.in-Some.first.now some)).0

pub returns-clause-live : goal.returns-clause-live
returns-clause-live g c =
    let some : slice_get c.in_ok-ids.ids.items 0 ≡ Some c.in-Some.first.now = ap (λ (l : List ℕ). slice_get l 0) (sym c.deref.ensures.value) ∙ sym c.first.ensures.value ∙ ap option_copied c.in-Some.is in
    c.in_ok-documents.ensures.live
    ∙ document-first c.args.self.live c.remove_all.new.self.live c.args.term.now c.in_ok-ids.ids.items c.in_ok-ids.ensures.live c.in_ok-ids.ensures.ids c.args.doc c.in-Some.first.now some (c.in_ok-ids.ensures.first c.in-Some.first.now (first_some c.args.self.live c.remove_all.new.self.live c.args.term.now c.in_ok-ids.ids.items c.in_ok-ids.ensures.live c.in_ok-ids.ensures.ids c.in-Some.first.now some)).1

pub returns-clause-reply : goal.returns-clause-reply
returns-clause-reply g c =
    let some : slice_get c.in_ok-ids.ids.items 0 ≡ Some c.in-Some.first.now = ap (λ (l : List ℕ). slice_get l 0) (sym c.deref.ensures.value) ∙ sym c.first.ensures.value ∙ ap option_copied c.in-Some.is in
    reply-first c.args.self.live c.remove_all.new.self.live c.args.term.now c.in_ok-ids.ids.items c.in_ok-ids.ensures.live c.in_ok-ids.ensures.ids c.in-Some.first.now some
