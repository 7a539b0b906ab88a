-- The list at the number of the term is changed.
use Rattle.std.proofs.Common.{◌≡◌, ◌<◌, List, ℕ, length, ap, sym, subst, ◌∙◌, bytes_eq, if◌then◌else◌}
use Rattle.sk_dict.specs.Terms.{term_at}
use Rattle.sk_dict.proofs.NumberLaws.{number_of-Some}
use Rattle.sk_sorted.specs.Entries.{put}
use Rattle.sk_chunks.specs.Postings.{Postings}
use Rattle.sk_terms.specs.Named.{Grows}
use Rattle.sk_terms.proofs.ListedLemmas.{changed_at}
use Rattle.sk_terms.proofs.term_lists.TermLists.put.Goals as goal

pub returns-clause-puts : goal.returns-clause-puts
returns-clause-puts c =
    let changed = changed_at (put c.args.id c.args.wdf) c.number_for.new.self c.put_at.new.self c.args.term.now c.in_ok-number.number c.put_at.ensures.sound c.in_ok-number.ensures.there c.in_ok-number.ensures.found c.in_ok-put_at.ensures.terms c.in_ok-put_at.ensures.lists in
    λ t. changed t ∙ ap (λ (p : Postings). if bytes_eq c.args.term.now t then put c.args.id c.args.wdf p else p) (c.in_ok-number.ensures.same t)

pub returns-clause-grows : goal.returns-clause-grows
returns-clause-grows c = subst (Grows c.args.self.now.terms) (sym c.in_ok-put_at.ensures.terms) c.in_ok-number.ensures.grows

pub returns-clause-named : goal.returns-clause-named
returns-clause-named c =
    subst (λ (terms : List (List ℕ)). (c.in_ok-number.number < length terms) × (term_at terms c.in_ok-number.number ≡ c.args.term.now)) (sym c.in_ok-put_at.ensures.terms)
    (number_of-Some c.number_for.new.self.terms c.args.term.now c.in_ok-number.number c.in_ok-number.ensures.found)
