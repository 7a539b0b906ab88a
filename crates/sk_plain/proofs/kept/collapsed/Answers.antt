use Rattle.std.proofs.Common.{Some, [], ◌∷◌, ◌++◌, drop, ◌+◌, arith, sym, ap, ◌∙◌}
use Rattle.sk_model.specs.Matches.{key_of}
use Rattle.sk_model.specs.Page.{is_kept, kept_behind}
use Rattle.sk_plain.proofs.KeptLemmas.{cut, kept_more, kept_none}
use Rattle.sk_plain.proofs.kept.collapsed.Goals as goal

pub ranks-preserved-then-not-is_kept : goal.ranks-preserved-then-not-is_kept
ranks-preserved-then-not-is_kept c =
    kept_none c.args.by.max (key_of (Some c.args.by) c.args.docs.now.entries) c.ranks.kept.items
    (kept_behind c.args.by.max (key_of (Some c.args.by) c.args.docs.now.entries) [] c.args.ranks.now)
    (drop c.ranks.rank-index c.args.ranks.now) (drop (c.ranks.rank-index + 1) c.args.ranks.now) c.rank-item.result c.ranks.before.items
    (cut c.args.ranks.now c.ranks.rank-index c.rank-item.result (omega arith) c.rank-item.is)
    (sym c.if-not-is_kept.true ∙ c.is_kept.ensures ∙ (λ i. is_kept c.args.by.max (c.key_of-key.ensures i) (c.as_slice.ensures.value i)))
    c.ranks.invariant

pub ranks-preserved : goal.ranks-preserved
ranks-preserved c =
    kept_more c.args.by.max (key_of (Some c.args.by) c.args.docs.now.entries) c.ranks.kept.items c.push.new.self.items
    (kept_behind c.args.by.max (key_of (Some c.args.by) c.args.docs.now.entries) [] c.args.ranks.now)
    (drop c.ranks.rank-index c.args.ranks.now) (drop (c.ranks.rank-index + 1) c.args.ranks.now) c.rank-item.result c.ranks.before.items c.insert.new.self.items
    (cut c.args.ranks.now c.ranks.rank-index c.rank-item.result (omega arith) c.rank-item.is)
    (sym c.if-not-is_kept.false ∙ c.is_kept.ensures ∙ (λ i. is_kept c.args.by.max (c.key_of-key.ensures i) (c.as_slice.ensures.value i)))
    (c.in_ok-push.ensures.items ∙ ap (λ x. c.ranks.kept.items ++ x ∷ []) c.in_ok-rank.ensures)
    (c.in_ok-insert.ensures.items ∙ ap (λ k. k ∷ c.ranks.before.items) (c.in_ok-key.ensures ∙ c.key_of-key.ensures))
    c.ranks.invariant
