-- There are as many terms as the words say.
use Rattle.std.proofs.Common.{length, sym, ap, ◌∙◌}
use Rattle.sk_packed.specs.Packed.{term_count}
use Rattle.sk_packed.proofs.FrozenLemmas.{length-frozen}
use Rattle.sk_packed.proofs.packed_terms.PackedTerms.len.Goals as goal

pub returns-clause-value : goal.returns-clause-value
returns-clause-value c = c.count.ensures.value ∙ ap term_count c.as_slice.ensures.value ∙ sym (length-frozen c.self.inside.words.items) ∙ ap length c.self.view_is
