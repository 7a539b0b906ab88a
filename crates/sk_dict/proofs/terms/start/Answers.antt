use Rattle.std.proofs.Common.{◌≡◌, suc, ◌-◌, sym, ap, ◌∙◌, arith}
use Rattle.sk_dict.specs.Cuts.{start_at}
use Rattle.sk_dict.proofs.CutLemmas.{start-first, start-next}
use Rattle.sk_dict.proofs.terms.start.Goals as goal

pub returns-then-number-eq0 : goal.returns-then-number-eq0
returns-then-number-eq0 c = sym (ap (start_at 0 c.args.ends.now) c.if-number-eq0.true ∙ start-first 0 c.args.ends.now)

pub returns-else-number-eq0 : goal.returns-else-number-eq0
returns-else-number-eq0 c =
    let next : c.args.number ≡ suc (c.args.number - 1) = omega arith in
    sym (ap (start_at 0 c.args.ends.now) next ∙ start-next 0 c.args.ends.now (c.args.number - 1) (omega arith))
