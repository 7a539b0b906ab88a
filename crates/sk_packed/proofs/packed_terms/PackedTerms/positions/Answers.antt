-- The part that is read is that of the term.
use Rattle.std.proofs.Common.{ℕ, List, length, slice_range, ap, sym, subst, ◌∙◌, ◌≤◌, arith, rules}
use Rattle.sk_base.specs.Order.{ArePositions}
use Rattle.sk_packed.specs.Packed.{NumberedTerm, IsTold}
use Rattle.sk_packed.proofs.FrozenLemmas.{head_inside, heads_inside, term_is, told_is}
use Rattle.sk_packed.proofs.packed_terms.PackedTerms.positions.Goals as goal

pub begin-from-requires : goal.begin-from-requires
begin-from-requires c = omega (arith, head_inside c.self.inside.words.items c.as_slice-words.result.now c.as_slice-words.ensures.value c.args.self.now c.args.i c.self.invariant c.self.view_is c.requires.there)

pub end-to-requires : goal.end-to-requires
end-to-requires c = record {
  there = head_inside c.self.inside.words.items c.as_slice-words.result.now c.as_slice-words.ensures.value c.args.self.now c.args.i c.self.invariant c.self.view_is c.requires.there;
  heads = heads_inside c.self.inside.words.items c.as_slice-words.result.now c.as_slice-words.ensures.value c.args.self.now c.args.i c.self.invariant c.self.view_is c.requires.there;
}

pub slice_bounds-result-count : goal.slice_bounds-result-count
slice_bounds-result-count c =
    let told : IsTold c.as_slice-words.result.now c.args.i = told_is c.self.inside.words.items c.as_slice-words.result.now c.as_slice-words.ensures.value c.args.self.now c.args.i c.self.invariant c.self.view_is c.requires.there in
    omega (arith, told.order, c.begin-from.ensures, c.end-to.ensures)

pub slice_bounds-result-start : goal.slice_bounds-result-start
slice_bounds-result-start c =
    let told : IsTold c.as_slice-words.result.now c.args.i = told_is c.self.inside.words.items c.as_slice-words.result.now c.as_slice-words.ensures.value c.args.self.now c.args.i c.self.invariant c.self.view_is c.requires.there in
    let order : c.begin-from.result ≤ c.end-to.result = omega (arith, told.order, c.begin-from.ensures, c.end-to.ensures) in
    let inside : c.end-to.result ≤ length c.as_slice-words.result.now = omega (arith, told.inside, c.end-to.ensures) in
    search rules

pub returns-clause-value : goal.returns-clause-value
returns-clause-value c =
    (λ j. slice_range c.as_slice-words.result.now (c.begin-from.ensures j) (c.end-to.ensures j))
    ∙ ap (λ (one : NumberedTerm). one.positions) (term_is c.self.inside.words.items c.as_slice-words.result.now c.as_slice-words.ensures.value c.args.self.now c.args.i c.self.invariant c.self.view_is c.requires.there)

pub returns-clause-rising : goal.returns-clause-rising
returns-clause-rising c =
    let words : List ℕ = c.as_slice-words.result.now in
    subst ArePositions (sym (λ j. slice_range words (c.begin-from.ensures j) (c.end-to.ensures j)))
    (told_is c.self.inside.words.items c.as_slice-words.result.now c.as_slice-words.ensures.value c.args.self.now c.args.i c.self.invariant c.self.view_is c.requires.there).rising
