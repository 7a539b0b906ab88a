use Rattle.std.proofs.Common.{◌≡◌, ◌+◌, ◌-◌, ◌∙◌, ℕ, sym, subst, true, take, arith}
use Rattle.sk_model.specs.Laws.{stand_within}
use Rattle.sk_near.specs.Windows.{WindowsFrom}
use Rattle.sk_near.proofs.WindowLemmas.{no_window, windows_reach, stands_more}
use Rattle.sk_near.proofs.windows.raise.Goals as goal
use Rattle.sk_near.proofs.windows.raise.Goals.{then-raised-width, else-raised-width}

pub returns-in_err-position : goal.returns-in_err-position
returns-in_err-position g c =
    rw c.from_residual.ensures
    (no_window c.args.window (g.P.Operands.places c.args.lists.now) c.loop-i.raised c.loop-i.i (omega arith) c.loop-i.invariant.from (sym c.in_err-position.ensures))

pub loop-i-preserved : goal.loop-i-preserved
loop-i-preserved g c =
    let window : ℕ = c.args.window in
    let places = g.P.Operands.places c.args.lists.now in
    let is = sym c.in_ok-position.ensures in
    elim c.if-raised-width.branch [
      | then-raised-width w ↦
          let now : c.if-raised-width.raised ≡ c.in_ok-position.position + 1 - window = omega arith in record {
            later = omega arith;
            small = omega arith;
            from = subst (λ n. WindowsFrom window n places) (sym now) (windows_reach window places c.loop-i.raised c.loop-i.i (omega arith) c.in_ok-position.position c.loop-i.invariant.from is);
            found = λ same. absurd (omega arith);
          }
      | else-raised-width w ↦ record {
        later = omega arith;
        small = omega arith;
        from = subst (λ n. WindowsFrom window n places) (sym w.raised-is) c.loop-i.invariant.from;
        found = λ same.
            subst (λ n. stand_within window n (take (c.loop-i.i + 1) places) ≡ true) (sym w.raised-is)
            (stands_more window places c.loop-i.raised c.loop-i.i (omega arith) c.in_ok-position.position is (omega arith) (c.loop-i.invariant.found (sym w.raised-is ∙ same)));
      }
    ]
