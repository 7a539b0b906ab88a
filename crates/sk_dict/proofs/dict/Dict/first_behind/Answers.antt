use Rattle.std.proofs.Common.{◌≡◌, ℕ, List, true, false, is_some, Option, MatchOption, sym, subst, ◌∙◌, vec_len}
use Rattle.std.proofs.lemmas.Bool.Decides.{Decides-eqb}
use Rattle.sk_dict.specs.Terms.{term_at}
use Rattle.sk_dict.specs.Searches.{AllPassed, IsFirst, start_of}
use Rattle.sk_dict.proofs.OrderLemmas.{first_found, none_found}
use Rattle.sk_dict.proofs.dict.Dict.first_behind.Goals as goal

-- there are no blocks, and so no terms
pub returns-then-is_empty : goal.returns-then-is_empty
returns-then-is_empty c =
    let none : vec_len c.self.inside.blocks ≡ 0 = (Decides-eqb (vec_len c.self.inside.blocks) 0).0 (sym c.is_empty.ensures ∙ c.if-is_empty.true) in
    none_found c.args.self.now c.self.inside.terms c.self.inside.blocks.items (start_of c.args.self.now c.args.prefix.now c.args.after) (is_some c.args.after)
    c.self.view_is (sym c.self.inside.blocks.ok.0 ∙ none) c.self.invariant

-- the number at the place where the prefix would stand
pub returns-in_default : goal.returns-in_default
returns-in_default c =
    subst (λ (o : Option ℕ). MatchOption c.number_at.result (AllPassed c.args.self.now (start_of c.args.self.now c.args.prefix.now o) (is_some o))
    (λ n. IsFirst c.args.self.now (start_of c.args.self.now c.args.prefix.now o) (is_some o) n))
    (sym c.in_default.is)
    (first_found c.args.self.now c.self.inside.terms c.self.inside.blocks.items c.deref.result.now c.deref-in_default.result.now c.args.prefix.now false
    c.find_place.result.block c.find_place.result.offset c.number_at.result c.self.view_is c.deref.ensures.value c.deref-in_default.ensures.value
    c.self.invariant c.find_place.ensures.split c.number_at.ensures)

-- and behind the number
pub returns : goal.returns
returns c =
    subst (λ (o : Option ℕ). MatchOption c.number_at-2.result (AllPassed c.args.self.now (start_of c.args.self.now c.args.prefix.now o) (is_some o))
    (λ n. IsFirst c.args.self.now (start_of c.args.self.now c.args.prefix.now o) (is_some o) n))
    (sym c.in-Some.is)
    (subst (λ (t : List (List ℕ)). MatchOption c.number_at-2.result (AllPassed c.args.self.now (term_at t c.in-Some.number) true)
    (λ n. IsFirst c.args.self.now (term_at t c.in-Some.number) true n))
    c.self.view_is
    (first_found c.args.self.now c.self.inside.terms c.self.inside.blocks.items c.deref-2.result.now c.deref-3.result.now
    (term_at c.self.inside.terms c.in-Some.number) true
    c.place_behind.result.block c.place_behind.result.offset c.number_at-2.result c.self.view_is c.deref-2.ensures.value c.deref-3.ensures.value
    c.self.invariant c.place_behind.ensures.split c.number_at-2.ensures))
