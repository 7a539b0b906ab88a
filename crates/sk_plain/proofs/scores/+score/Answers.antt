use Rattle.std.proofs.Common.{◌∙◌, refl, arith}
use Rattle.sk_query.specs.declared.form.Form.{Form}
use Rattle.sk_query.specs.Trees.{queries_view}
use Rattle.sk_model.specs.Scores.{scores}
use Rattle.sk_model.proofs.WeightLaws.{parts_small}
use Rattle.sk_plain.proofs.SumLemmas.{end_sums}
use Rattle.sk_plain.proofs.scores.+score.Goals as goal

pub combined-returns : goal.combined-returns
combined-returns t c =
    c.made_by.ensures
    ∙ end_sums (λ ps. scores (queries_view ps) c.args.scheme c.args.factor c.args.doc.now) c.args.form c.parts.sums c.args.parts.now c.parts.part-index refl (omega arith) c.parts.invariant.whole
    (parts_small c.args.scheme c.args.doc.now c.requires.light Form.And (queries_view c.args.parts.now) c.args.factor c.requires.sound c.requires.factor c.requires.leaves)
    (parts_small c.args.scheme c.args.doc.now c.requires.light Form.Or (queries_view c.args.parts.now) c.args.factor c.requires.sound c.requires.factor c.requires.leaves)
