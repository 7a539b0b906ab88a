-- One word more has a number, or has none.
use Rattle.std.proofs.Common.{◌+◌, ◌++◌, map, drop, ap, sym, subst, ◌∙◌, arith}
use Rattle.sk_dict.specs.Terms.{term_at, number_of}
use Rattle.sk_tree.specs.Opened.{numbered}
use Rattle.sk_nodes.specs.Proximity.{AreThere}
use Rattle.sk_tree.proofs.WordLaws.{found_there, found_next, missing_next}
use Rattle.sk_tree.proofs.words.numbers_of.Goals.{in-Some+in_ok-push, in_default}
use Rattle.sk_tree.proofs.words.numbers_of.Goals as goal

pub words-preserved : goal.words-preserved
words-preserved c = elim c.match-number_of.branch [
  | in-Some+in_ok-push w ↦
      let i = c.args.index.now in
      let bytes = c.as_bytes.ensures.value ∙ c.as_str.ensures in
      let more = ap (λ v. v.items) w.numbers-is ∙ w.in_ok-push.ensures.items in
      let named = w.in-Some.ensures.found.1 ∙ bytes in
      record {
        there = found_there i c.words.numbers.items _ w.in-Some.number more c.words.invariant.there w.in-Some.ensures.found.0;
        terms = found_next i c.args.words.now c.words.word-index c.word-item.result c.words.numbers.items _ w.in-Some.number (omega (arith, c.words-test.true)) c.word-item.is more
            (ap (λ t. number_of t i.terms) (sym bytes) ∙ sym c.number_of.ensures.value ∙ w.in-Some.is) named c.words.invariant.terms;
      }
  | in_default w ↦
      let i = c.args.index.now in
      let bytes = c.as_bytes.ensures.value ∙ c.as_str.ensures in
      let same = ap (λ v. v.items) w.numbers-is in
      record {
        there = subst (λ ns. AreThere i ns) (sym same) c.words.invariant.there;
        terms = ap (λ ns. map (term_at i.terms) ns ++ numbered i (drop (c.words.word-index + 1) c.args.words.now)) same
            ∙ missing_next i c.args.words.now c.words.word-index c.word-item.result c.words.numbers.items (omega (arith, c.words-test.true)) c.word-item.is
            (ap (λ t. number_of t i.terms) (sym bytes) ∙ sym c.number_of.ensures.value ∙ w.in_default.is) c.words.invariant.terms;
      }
]
