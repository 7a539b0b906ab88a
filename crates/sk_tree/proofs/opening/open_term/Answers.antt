-- The list of a term gives what the documents score for it.
use Rattle.std.proofs.Common.{◌≡◌, ℕ, false, List, subst, ap, ◌∙◌, arith}
use Rattle.sk_base.specs.Numbers.{some_has, length_of}
use Rattle.sk_dict.specs.Terms.{term_at}
use Rattle.sk_query.specs.Trees as Query
use Rattle.sk_model.specs.Bounds.{term_ceil}
use Rattle.sk_nodes.specs.Shapes.{shape_of}
use Rattle.sk_tree.specs.Opened.{score_of, Opens}
use Rattle.sk_nodes.proofs.NodeLaws.{shape_of-Nothing}
use Rattle.sk_tree.proofs.TermLaws.{term-none, nothing_opened}
use Rattle.sk_nodes.specs.declared.top.Top.{Top}
use Rattle.sk_tree.specs.OpenedAccounts.{OpensTerm}
use Rattle.sk_tree.proofs.OpenedQueryLaws.{none_term}
use Rattle.sk_tree.proofs.opening.open_term.Goals as goal

pub returns-in-None-clause-opens : goal.returns-in-None-clause-opens
returns-in-None-clause-opens g c =
    let docs = c.args.index.now.live.documents in
    nothing_opened c.args.index.now c.ended.result _ (score_of (Query.term c.args.word.now) c.args.scheme c.args.factor) _ c.ended.ensures shape_of-Nothing
    (λ id. term-none c.args.scheme c.args.factor c.args.word.now docs id
    (subst (λ (t : List ℕ). some_has t docs ≡ false) (c.as_bytes.ensures.value ∙ c.as_str.ensures) c.in-None.ensures.found))

pub returns-in_ok-top-in-Some-clause-opens : goal.returns-in_ok-top-in-Some-clause-opens
returns-in_ok-top-in-Some-clause-opens g c =
    let i = c.args.index.now in
    let named : term_at i.terms c.in-Some.number ≡ c.args.word.now = c.in-Some.ensures.found.1 ∙ c.as_bytes.ensures.value ∙ c.as_str.ensures in
    subst (λ (t : List ℕ). Opens i c.in_ok-top-in-Some.top (shape_of c.in_ok-top-in-Some.node) (score_of (Query.term t) c.args.scheme c.args.factor) (term_ceil c.args.scheme c.args.factor t i.live.documents)) named
    c.in_ok-top-in-Some.ensures.opens

pub returns-in_ok-top-in-Some-clause-pays : goal.returns-in_ok-top-in-Some-clause-pays
returns-in_ok-top-in-Some-clause-pays g c =
    let i = c.args.index.now in
    let named : term_at i.terms c.in-Some.number ≡ c.args.word.now = c.in-Some.ensures.found.1 ∙ c.as_bytes.ensures.value ∙ c.as_str.ensures in
    let pays = c.in_ok-top-in-Some.ensures.pays in
    record { paid = pays.paid; within = omega (arith, ap (λ t. length_of t i.live.documents) named, pays.within); room = pays.room }

pub returns-in_ok-top-in-Some-clause-term : goal.returns-in_ok-top-in-Some-clause-term
returns-in_ok-top-in-Some-clause-term g c =
    let i = c.args.index.now in
    let named : term_at i.terms c.in-Some.number ≡ c.args.word.now = c.in-Some.ensures.found.1 ∙ c.as_bytes.ensures.value ∙ c.as_str.ensures in
    subst (λ (t : List ℕ). OpensTerm i c.in_ok-top-in-Some.top (shape_of c.in_ok-top-in-Some.node) t (term_ceil c.args.scheme c.args.factor t i.live.documents) c.args.spent.now c.open_numbered.new.spent) named c.in_ok-top-in-Some.ensures.term

pub returns-in-None-clause-term : goal.returns-in-None-clause-term
returns-in-None-clause-term g c = none_term c.args.index.now c.ended.result _ _ _ _ (ap (λ (u : Top). u.head) c.ended.ensures) shape_of-Nothing
