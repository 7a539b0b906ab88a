use Rattle.std.proofs.Common.{◌+◌, sym, ◌∙◌, drop, arith}
use Rattle.sk_grammar.specs.Characters.{group_len}
use Rattle.sk_lexer.proofs.GroupLemmas.{ends_at, group_in, group_past}
use Rattle.sk_lexer.proofs.runs.group_len.Goals.{then-belongs, else-belongs+else-not-is_joiner}
use Rattle.sk_lexer.proofs.runs.group_len.Goals as goal

pub cs-preserved : goal.cs-preserved
cs-preserved c = elim c.if-belongs.branch [
  | then-belongs w ↦
      let b = sym (c.belongs.ensures c.is_word-in_word.ensures (drop (c.cs.i + 1) c.args.cs.now) c.first_behind.ensures) ∙ w.if-belongs.true in
      let end = w.end-is in
      record {
        reach =
            (λ k. ends_at (w.end-is k) (c.cs.i + 1) (group_len (c.is_word-in_word.ensures k) (drop (c.cs.i + 1) c.args.cs.now)))
            ∙ sym (group_in c.args.cs.now c.cs.after c.cs.end c.cs.i c.index-cs-i.result c.cs-test.true c.index-cs-i.is b) ∙ c.cs.invariant.reach;
        within = omega (arith, end);
      }
  | else-belongs+else-not-is_joiner w ↦
      let b = sym (c.belongs.ensures c.is_word-in_word.ensures (drop (c.cs.i + 1) c.args.cs.now) c.first_behind.ensures) ∙ w.if-belongs.false in
      let j = sym w.is_joiner.ensures ∙ w.if-not-is_joiner.false in
      let end = w.end-is in
      let before = c.cs.invariant.within in
      record {
        reach =
            (λ k. ends_at (w.end-is k) (c.cs.i + 1) (group_len (c.is_word-in_word.ensures k) (drop (c.cs.i + 1) c.args.cs.now)))
            ∙ sym (group_past c.args.cs.now c.cs.after c.cs.end c.cs.i c.index-cs-i.result c.cs-test.true c.index-cs-i.is b j) ∙ c.cs.invariant.reach;
        within = omega (arith, end, before);
      }
]
