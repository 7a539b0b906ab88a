-- A new term has an empty list, and the terms stay different.
use Rattle.std.proofs.Common.{◌≡◌, ◌≤◌, [], ◌∷◌, ◌++◌, None, length, ◌∙◌, arith}
use Rattle.sk_dict.specs.Terms.{number_of}
use Rattle.sk_terms.proofs.ListedLemmas.{none-before, IsListed-added}
use Rattle.sk_terms.proofs.term_lists.TermLists.number_for.Goals as goal

pub invariant_of-self-2 : goal.invariant_of-self-2
invariant_of-self-2 c =
    let past : length c.make_room.new.items.items ≤ c.in_ok-number.number = omega (arith, c.make_room.new.items.ok.0) in
    let none : number_of c.args.term.now c.self.inside.dict ≡ None =
    none-before c.self.inside.dict c.self.inside.lists.items c.make_room.new.items.items c.args.term.now c.in_ok-number.number c.self.invariant c.in_ok-number.ensures.ok c.in_ok-make_room.ensures.same past in
    let longer : c.push_reserved.new.self.items ≡ c.self.inside.lists.items ++ [] ∷ [] = c.push_reserved.ensures.items ∙ (λ i. c.make_room.ensures.same i ++ c.new.ensures i ∷ []) in
    IsListed-added c.self.inside.dict c.add.new.self c.self.inside.lists.items c.push_reserved.new.self.items c.args.term.now none c.self.invariant c.in_ok-number.ensures.after longer
