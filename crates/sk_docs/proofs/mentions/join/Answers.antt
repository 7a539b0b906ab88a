use Rattle.std.proofs.Common.{refl, sym, ap, ◌∙◌, ◌-◌, ◌++◌, ◌∷◌, [], arith, vec_len, true≢false}
use Rattle.std.proofs.lemmas.Result.{on_ok_weaker}
use Rattle.sk_docs.proofs.JoinLemmas.{join_last, push_last, push_first, load_at}
use Rattle.sk_docs.proofs.mentions.join.Goals as goal
use Rattle.sk_docs.proofs.mentions.join.Goals.{in-Some+else-is_of, in_default}

pub join-requires-clause-light : goal.join-requires-clause-light
join-requires-clause-light c =
    let some = c.in-Some.ensures.variant.0 refl in
    let len = c.args.terms.now.ok.0 in
    omega (arith, c.requires.can.light, ap (λ one. one.wdf) c.in-Some.ensures.value, load_at c.args.terms.now.items (vec_len c.args.terms.now - 1) c.in-Some.last.now (omega (arith, some, len)))

pub returns-then-is_of : goal.returns-then-is_of
returns-then-is_of c =
    on_ok_weaker c.join.result
    (join_last c.args.terms.now.items c.args.mention c.in-Some.last.now c.join.new.term (vec_len c.args.terms.now) (c.in-Some.ensures.variant.0 refl) c.args.terms.now.ok.0 c.requires.can.rising
    c.in-Some.ensures.value (sym c.is_of.ensures ∙ c.if-is_of.true))
    c.join.ensures

pub returns : goal.returns
returns c =
    c.in_ok-push.ensures.items ∙ ap (λ term. c.match-last_mut.terms.items ++ term ∷ []) c.in_ok-into_term.ensures
    ∙ elim c.match-last_mut.branch [
      | in-Some+else-is_of w ↦
          push_last c.args.terms.now.items c.match-last_mut.terms.items c.args.mention w.in-Some.last.now (vec_len c.args.terms.now) (w.in-Some.ensures.variant.0 refl) c.args.terms.now.ok.0
          c.requires.can.rising c.requires.can.follows w.in-Some.ensures.value (sym w.is_of.ensures ∙ w.if-is_of.false) (ap (λ v. v.items) w.terms-is)
      | in_default w ↦
          ap (λ v. v.items ++ c.args.mention ∷ []) w.terms-is
          ∙ push_first c.args.terms.now.items c.args.mention (vec_len c.args.terms.now) c.args.terms.now.ok.0 (λ h. true≢false (sym (w.in_default.ensures.variant.1 h)))
    ]
