-- Each term has its number.
use Rattle.std.proofs.Common.{◌<◌, [], length, sym, ap, ◌∙◌, subst, arith}
use Rattle.std.proofs.lemmas.List.{get_or_default}
use Rattle.sk_sorted.specs.Runs.{flat}
use Rattle.sk_terms.specs.Listed.{Listed}
use Rattle.sk_terms.proofs.ListedLemmas.{list_of-number}
use Rattle.sk_terms.proofs.term_lists.TermLists.list.Goals as goal

pub returns-clause-entries : goal.returns-clause-entries
returns-clause-entries c =
    let there : c.args.number < length c.self.inside.dict = subst (λ (l : Listed). c.args.number < length l.terms) (sym c.self.view_is) c.requires.there in
    rw (← c.self.view_is) (ap flat (c.index.ensures ∙ get_or_default c.self.inside.lists.items c.args.number c.index.result.now [] (omega (arith, c.self.invariant.sizes, there)))
    ∙ sym (list_of-number (record { terms = c.self.inside.dict; lists = c.self.inside.lists.items }) c.args.number c.self.invariant there))

pub returns-clause-runs : goal.returns-clause-runs
returns-clause-runs c =
    let there : c.args.number < length c.self.inside.dict = subst (λ (l : Listed). c.args.number < length l.terms) (sym c.self.view_is) c.requires.there in
    rw (← c.self.view_is) (c.index.ensures ∙ get_or_default c.self.inside.lists.items c.args.number c.index.result.now [] (omega (arith, c.self.invariant.sizes, there)))
