use Rattle.std.proofs.Common.{◌≡◌, false, sym, ◌∙◌, vec_len}
use Rattle.std.proofs.lemmas.Bool.Decides.{Decides-eqb}
use Rattle.sk_dict.proofs.OrderLemmas.{first_found, none_found}
use Rattle.sk_dict.proofs.dict.Dict.first.Goals as goal

-- there are no blocks, and so no terms
pub returns-then-is_empty : goal.returns-then-is_empty
returns-then-is_empty c =
    let none : vec_len c.self.inside.blocks ≡ 0 = (Decides-eqb (vec_len c.self.inside.blocks) 0).0 (sym c.is_empty.ensures ∙ c.if-is_empty.true) in
    none_found c.args.self.now c.self.inside.terms c.self.inside.blocks.items c.args.key.now false c.self.view_is (sym c.self.inside.blocks.ok.0 ∙ none) c.self.invariant

-- the number at the place
pub returns : goal.returns
returns c =
    first_found c.args.self.now c.self.inside.terms c.self.inside.blocks.items c.deref.result.now c.deref-2.result.now c.args.key.now false
    c.find_place-place.result.block c.find_place-place.result.offset c.number_at.result c.self.view_is c.deref.ensures.value c.deref-2.ensures.value
    c.self.invariant c.find_place-place.ensures.split c.number_at.ensures
