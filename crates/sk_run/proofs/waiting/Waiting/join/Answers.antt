use Rattle.std.proofs.Common.{arith, ◌∙◌}
use Rattle.sk_run.proofs.RunLemmas.{rose_since}
use Rattle.sk_run.proofs.WaitingLemmas.{prefix_longer, moves_both, moves_joined, prefix_behind, on_ok_as, on_err_as, on_err}
use Rattle.sk_run.proofs.waiting.Waiting.join.Goals as goal

pub returns-in_err-put-clause-err : goal.returns-in_err-put-clause-err
returns-in_err-put-clause-err g c = on_err _ c.from_residual.result (prefix_longer c.args.self.now c.args.text.now _ _ c.in_err-put.ensures.err)

pub returns-in_err-put_unless-clause-err : goal.returns-in_err-put_unless-clause-err
returns-in_err-put_unless-clause-err g c = on_err _ c.from_residual-in_err-put_unless.result (prefix_longer c.args.self.now c.args.text.now _ _ c.in_err-put_unless.ensures.err)

pub returns-then-text-gt-BOUND-clause-ok : goal.returns-then-text-gt-BOUND-clause-ok
returns-then-text-gt-BOUND-clause-ok g c =
    on_ok_as _ _ c.put_all.result (λ put. moves_both c.args.self.now _ c.args.text.now _ _ _ c.in_ok-put.ensures.ok put c.in_ok-put.ensures.empty) c.put_all.ensures.ok

pub returns-then-text-gt-BOUND-clause-err : goal.returns-then-text-gt-BOUND-clause-err
returns-then-text-gt-BOUND-clause-err g c = on_err_as _ _ c.put_all.result (λ prefix. prefix_behind c.args.self.now c.args.text.now _ _ _ c.in_ok-put.ensures.ok prefix) c.put_all.ensures.err

pub returns-then-text-gt-BOUND-clause-finishes : goal.returns-then-text-gt-BOUND-clause-finishes
returns-then-text-gt-BOUND-clause-finishes g c = c.put_all.ensures.finishes ∙ c.put.ensures.finishes

pub returns-then-text-gt-BOUND-clause-cause : goal.returns-then-text-gt-BOUND-clause-cause
returns-then-text-gt-BOUND-clause-cause g c = record {
  later = omega (arith, c.put.ensures.cause.later, c.put_all.ensures.cause.later);
  failed = λ failed. rose_since _ _ _ c.put.ensures.cause.later (c.put_all.ensures.cause.failed failed);
}

pub overflow_sub-fits : goal.overflow_sub-fits
overflow_sub-fits g c = omega arith

pub returns-clause-ok : goal.returns-clause-ok
returns-clause-ok g c = moves_joined _ _ _ _ _ _ c.in_ok-put_unless.ensures.ok (cc c.in-Ok.ensures.items)
