-- All documents weigh nothing.
use Rattle.std.proofs.Common.{◌≤◌, subst, ◌∙◌}
use Rattle.sk_index.specs.Indexed.{all_postings}
use Rattle.sk_tree.proofs.TermLaws.{weighed-all, greatest-all}
use Rattle.sk_tree.proofs.opening.open_all.Goals as goal

pub returns-clause-opens : goal.returns-clause-opens
returns-clause-opens g c factor =
    let docs = c.args.index.now.live.documents in
    record {
      top = c.in_ok-top.ensures.yields.top;
      sound = c.in_ok-top.ensures.yields.sound;
      gives = λ id. c.in_ok-top.ensures.yields.gives id ∙ weighed-all factor c.args.scheme docs id;
      ceiling = subst (λ n. c.in_ok-top.top.greatest ≤ n) (greatest-all c.args.scheme (all_postings docs)) c.in_ok-top.ensures.yields.ceiling;
    }
