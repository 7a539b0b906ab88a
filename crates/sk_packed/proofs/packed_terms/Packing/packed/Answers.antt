-- The words are those of the terms.
use Rattle.sk_packed.proofs.FrozenLemmas.{frozen_is, frozen_sound}
use Rattle.sk_packed.proofs.packed_terms.Packing.packed.Goals as goal

pub invariant_of-result : goal.invariant_of-result
invariant_of-result c =
    frozen_sound c.self.inside.terms.items c.as_slice.result.now c.self.inside.positions.items c.as_slice-2.result.now c.in_ok-words.words.items c.self.invariant
    c.as_slice.ensures.value c.as_slice-2.ensures.value c.in_ok-words.ensures

pub returns : goal.returns
returns c =
    frozen_is c.self.inside.terms.items c.as_slice.result.now c.self.inside.positions.items c.as_slice-2.result.now c.in_ok-words.words.items c.self.invariant
    c.as_slice.ensures.value c.as_slice-2.ensures.value c.in_ok-words.ensures c.args.self.now c.self.view_is
