use Rattle.sk_dict.proofs.WalkLemmas.{known_rest, walk_found}
use Rattle.sk_dict.proofs.dict.Dict.with_prefix.Goals as goal

-- the numbers of the order have terms
pub numbers_with-requires-clause-known : goal.numbers_with-requires-clause-known
numbers_with-requires-clause-known c =
    known_rest c.self.inside.terms c.self.inside.blocks.items c.deref.result.now c.deref-2.result.now _ c.find_place-start.result.block c.find_place-start.result.offset
    c.deref.ensures.value c.deref-2.ensures.value c.self.invariant c.find_place-start.ensures.split

-- those that begin with the prefix stand together
pub returns : goal.returns
returns c =
    walk_found c.args.self.now c.self.inside.terms c.self.inside.blocks.items c.deref.result.now c.deref-2.result.now c.args.prefix.now
    c.find_place-start.result.block c.find_place-start.result.offset _ c.self.view_is c.deref.ensures.value c.deref-2.ensures.value
    c.self.invariant c.find_place-start.ensures.split c.in_ok-found.ensures
