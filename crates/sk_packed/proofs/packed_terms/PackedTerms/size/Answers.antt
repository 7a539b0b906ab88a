-- The heads of the terms are two numbers each.
use Rattle.std.proofs.Common.{◌≡◌, length, sym, ap, ◌∙◌, arith}
use Rattle.sk_packed.specs.Packed.{term_count}
use Rattle.sk_packed.proofs.FrozenLemmas.{length-frozen}
use Rattle.sk_packed.proofs.packed_terms.PackedTerms.size.Goals as goal

pub returns : goal.returns
returns c =
    let count : length c.args.self.now ≡ term_count c.self.inside.words.items = sym (ap length c.self.view_is) ∙ length-frozen c.self.inside.words.items in
    omega (arith, count, c.self.invariant.heads, c.len.ensures)
