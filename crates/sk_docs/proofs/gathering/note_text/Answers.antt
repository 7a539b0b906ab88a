use Rattle.std.proofs.Common.{subst, ap, arith, length}
use Rattle.std.specs.Vec.Iter.{into_iter_items}
use Rattle.sk_docs.proofs.GatherLemmas.{InText, text_goes_on, text_ends, among_length, none_left}
use Rattle.sk_docs.proofs.gathering.note_text.Goals as goal

pub words-preserved : goal.words-preserved
words-preserved c = (
  text_goes_on c.args.prefix.now c.args.step c.args.before c.args.gathered.now c.words.gathered c.note_word.new.gathered _ _ _ c.requires.step
      (subst (λ rest. InText c.args.prefix.now c.args.step c.args.before c.args.gathered.now c.words.gathered rest (into_iter_items c.into_iter-word-iterator.result)) c.in-Some.ensures.steps.0 c.words.invariant.0)
      c.in_ok-note_word.ensures,
  omega (arith, c.words.invariant.1, c.in-Some.ensures.steps.1, ap length c.in-Some.ensures.steps.0),
)

pub returns-clause-count : goal.returns-clause-count
returns-clause-count c =
    let all = into_iter_items c.into_iter-word-iterator.result in
    let none = none_left (into_iter_items c.words.word-iterator) (omega (arith, c.words.invariant.1, c.in-None.ensures.steps.0)) in
    let done = text_ends c.args.prefix.now c.args.step c.args.before c.args.gathered.now c.words.gathered _ all c.words.invariant.0 none in
    omega (arith, ap (λ g. g.next) done, among_length c.args.prefix.now c.args.step c.args.before all, ap length c.into_iter-word-iterator.ensures.into_iter_gives.0, ap length c.into_vec-word-items.ensures, c.in_ok-found.ensures.count)
