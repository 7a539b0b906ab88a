use Rattle.std.proofs.Common.{ap, sym}
use Rattle.sk_faults.proofs.BoundLemmas.{halves_some, halves_none}
use Rattle.sk_faults.proofs.bounds.halves.Goals as goal

pub returns-in-Some-clause-from : goal.returns-in-Some-clause-from
returns-in-Some-clause-from c =
    let h = c.in-Some.ensures.cases in
    ap (λ sides. sides.0) (sym (halves_some c.args.text.now c.in-Some.from.now c.in-Some.to.now h.0 h.1 h.2.0 h.2.1 h.3 h.4))

pub returns-in-Some-clause-to : goal.returns-in-Some-clause-to
returns-in-Some-clause-to c =
    let h = c.in-Some.ensures.cases in
    ap (λ sides. sides.1) (sym (halves_some c.args.text.now c.in-Some.from.now c.in-Some.to.now h.0 h.1 h.2.0 h.2.1 h.3 h.4))

pub returns-in-None-clause-from : goal.returns-in-None-clause-from
returns-in-None-clause-from c = ap (λ sides. sides.0) (sym (halves_none c.args.text.now c.in-None.ensures.cases))

pub returns-in-None-clause-to : goal.returns-in-None-clause-to
returns-in-None-clause-to c = ap (λ sides. sides.1) (sym (halves_none c.args.text.now c.in-None.ensures.cases))
