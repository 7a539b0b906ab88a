-- One word more.
use Rattle.std.proofs.Common.{ap, ◌∙◌, arith}
use Rattle.sk_query.specs.Trees as Trees
use Rattle.sk_query.proofs.ViewLaws.{view-Term}
use Rattle.sk_tree.proofs.WordLaws.{taken_next, taken_all}
use Rattle.sk_tree.proofs.words.terms_of.Goals as goal

pub words-preserved : goal.words-preserved
words-preserved c = taken_next c.args.words.now c.words.word-index c.word-item.result c.words.terms.items _ _ (omega (arith, c.words-test.true)) c.word-item.is c.in_ok-push.ensures.items (view-Term c.in_ok-term.term ∙ ap Trees.term (c.in_ok-term.ensures ∙ c.as_str.ensures)) c.words.invariant

pub returns : goal.returns
returns c = (taken_all c.args.words.now c.words.word-index c.words.terms.items (omega (arith, c.words-test.false)) c.words.invariant)
