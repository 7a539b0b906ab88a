-- The list of a term gives what the documents score for it.
use Rattle.std.proofs.Common.{◌≤◌, subst, ◌∙◌, arith}
use Rattle.sk_dict.specs.Terms.{term_at}
use Rattle.sk_index.proofs.NumberLemmas.{length-postings}
use Rattle.sk_tree.proofs.TermLaws.{weighed-term, greatest-term}
use Rattle.sk_nodes.specs.Shapes.{shape_of}
use Rattle.sk_tree.proofs.NestLaws.{term_nest}
use Rattle.sk_tree.proofs.LedLaws.{named_lone}
use Rattle.sk_tree.proofs.OpenedFadingLaws.{numbered_alone}
use Rattle.sk_tree.proofs.opening.open_numbered.Goals as goal

pub returns-clause-opens : goal.returns-clause-opens
returns-clause-opens g c =
    let i = c.args.index.now in
    let t = term_at i.terms c.args.number in
    record {
      top = c.in_ok-top.ensures.yields.top;
      sound = c.in_ok-top.ensures.yields.sound;
      gives = λ id. c.in_ok-top.ensures.yields.gives id ∙ weighed-term c.args.factor c.args.scheme t i.live.documents c.requires.can.documents id;
      ceiling = subst (λ n. c.in_ok-top.top.greatest ≤ n) (greatest-term c.args.factor c.args.scheme t i.live.documents) c.in_ok-top.ensures.yields.ceiling;
    }

pub returns-clause-pays : goal.returns-clause-pays
returns-clause-pays g c =
    let i = c.args.index.now in
    let pays = c.in_ok-top.ensures.pays in
    record { paid = pays.paid; within = omega (arith, length-postings (term_at i.terms c.args.number) i.live.documents, pays.within); room = pays.room }

pub returns-clause-exact : goal.returns-clause-exact
returns-clause-exact g c =
    let i = c.args.index.now in
    omega (arith, length-postings (term_at i.terms c.args.number) i.live.documents, c.in_ok-top.ensures.exact)

pub returns-clause-term : goal.returns-clause-term
returns-clause-term g c =
    let i = c.args.index.now in
    let list = c.in_ok-top.ensures.list in
    record {
      nest = λ form. term_nest i form (shape_of c.in_ok-top.node) c.args.number _ _ (list.nest form) list.entered;
      lone = named_lone i c.in_ok-top.top (shape_of c.in_ok-top.node) _ _ _ _ (length-postings (term_at i.terms c.args.number) i.live.documents) list.lone;
      alone = numbered_alone i c.in_ok-top.top (shape_of c.in_ok-top.node) c.args.number c.args.factor c.args.scheme _ _ list.begins list.lone;
    }
