use Rattle.std.proofs.Common.{◌≡◌, ◌+◌, sym, ap, ◌∙◌, arith, length, not, option_to_list}
use Rattle.sk_heap.specs.Held.{ranks_of}
use Rattle.sk_collapse.specs.Groups.{groups_of}
use Rattle.sk_collapse.proofs.GroupLemmas.{none_out, one_out}
use Rattle.sk_collapse.proofs.SeeLemmas.{seen_empty, seen_keyed}
use Rattle.sk_collapse.proofs.collapser.Collapser.see.Goals as goal
use Rattle.sk_collapse.proofs.collapser.Collapser.see.Goals.{then-is_none, else-is_none}

pub returns-then-is_empty-clause-knows : goal.returns-then-is_empty-clause-knows
returns-then-is_empty-clause-knows c = seen_empty c.args.self.now _ c.self.view_is c.args.key.now c.args.rank.now (sym c.if-is_empty.ensures)

pub invariant_of-self-then-is_none : goal.invariant_of-self-then-is_none
invariant_of-self-then-is_none c = (omega (arith, c.self.invariant.0), c.in_ok-gone.ensures.alike c.self.inside.seen c.self.invariant.1)

pub invariant_of-self-else-is_none : goal.invariant_of-self-else-is_none
invariant_of-self-else-is_none c = (omega (arith, c.self.invariant.0), c.in_ok-gone.ensures.alike c.self.inside.seen c.self.invariant.1)

pub returns-clause-knows : goal.returns-clause-knows
returns-clause-knows c =
    elim c.if-is_none.branch [
      | then-is_none w ↦
          let none : length (ranks_of (option_to_list c.in_ok-gone.gone)) ≡ 0 = none_out c.in_ok-gone.gone (c.is_none.ensures ∙ ap not w.if-is_none.true) in
          seen_keyed c.args.self.now _ c.self.view_is c.args.key.now c.args.rank.now (sym c.if-is_empty.ensures)
          c.in_ok-copy_of.field-0 c.in_ok-copy_of.ensures (c.self.inside.kept + 1) (groups_of c.put.new.groups.entries) (ranks_of (option_to_list c.in_ok-gone.gone))
          c.in_ok-gone.ensures.here c.in_ok-gone.ensures.others c.in_ok-gone.ensures.gone (omega (arith, none)) c.if-is_none.self w.self-is c.verdict_of.result c.verdict_of.ensures
      | else-is_none w ↦
          let one : length (ranks_of (option_to_list c.in_ok-gone.gone)) ≡ 1 = one_out c.in_ok-gone.gone (c.is_none.ensures ∙ ap not w.if-is_none.false) in
          seen_keyed c.args.self.now _ c.self.view_is c.args.key.now c.args.rank.now (sym c.if-is_empty.ensures)
          c.in_ok-copy_of.field-0 c.in_ok-copy_of.ensures c.self.inside.kept (groups_of c.put.new.groups.entries) (ranks_of (option_to_list c.in_ok-gone.gone))
          c.in_ok-gone.ensures.here c.in_ok-gone.ensures.others c.in_ok-gone.ensures.gone (omega (arith, one)) c.if-is_none.self w.self-is c.verdict_of.result c.verdict_of.ensures
    ]
