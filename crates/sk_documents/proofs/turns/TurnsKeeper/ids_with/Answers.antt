use Rattle.std.proofs.Common.{rules, ◌∙◌, sym, ap, subst, map, length}
use Rattle.std.specs.List.Sorted.{IsPermutation}
use Rattle.sk_documents.specs.Removing.{ids_with}
use Rattle.sk_sorted.specs.Joined.{joined}
use Rattle.sk_documents.specs.Turned.{Turned}
use Rattle.sk_documents.specs.Gathered.{AreIds}
use Rattle.sk_documents.proofs.AllTurnsLaws.{fit_all, sorted_all}
use Rattle.sk_documents.proofs.turns.TurnsKeeper.ids_with.Goals as goal

pub gather-requires-clause-fit : goal.gather-requires-clause-fit
gather-requires-clause-fit g c =
    subst (λ n. AreIds c.args.term.now n 0 (map g.K.Keeper.documents c.as_mut_slice.result.now)) (sym (search rules))
    (subst (λ ps. AreIds c.args.term.now (length c.self.inside.parts.items) 0 (map g.K.Keeper.documents ps)) (sym c.as_mut_slice.ensures.value) (fit_all c.args.term.now g.K.Keeper.documents c.self.inside.parts.items c.self.invariant))

pub returns-clause-ids : goal.returns-clause-ids
returns-clause-ids g c =
    sorted_all c.args.term.now g.K.Keeper.documents c.self.inside.parts.items c.self.invariant c.sort_unstable.new.self.items
    (subst (λ is. IsPermutation is c.sort_unstable.new.self.items) (search rules) c.sort_unstable.ensures.permutation) c.sort_unstable.ensures.sorted
    ∙ ap (λ (t : Turned _). ids_with c.args.term.now (joined (map g.K.Keeper.documents t.parts))) c.self.view_is
