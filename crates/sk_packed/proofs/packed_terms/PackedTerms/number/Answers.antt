-- The number is that of the term's head.
use Rattle.std.proofs.Common.{ap, ◌∙◌}
use Rattle.sk_packed.specs.Packed.{NumberedTerm}
use Rattle.sk_packed.proofs.FrozenLemmas.{head_inside, term_is}
use Rattle.sk_packed.proofs.packed_terms.PackedTerms.number.Goals as goal

pub number-requires : goal.number-requires
number-requires c = head_inside c.self.inside.words.items c.as_slice.result.now c.as_slice.ensures.value c.args.self.now c.args.i c.self.invariant c.self.view_is c.requires.there

pub returns : goal.returns
returns c =
    c.number.ensures
    ∙ ap (λ (one : NumberedTerm). one.number) (term_is c.self.inside.words.items c.as_slice.result.now c.as_slice.ensures.value c.args.self.now c.args.i c.self.invariant c.self.view_is c.requires.there)
