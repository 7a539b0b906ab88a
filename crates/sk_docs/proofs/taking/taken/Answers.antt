use Rattle.std.proofs.Common.{rules, sym, subst, ◌+◌}
use Rattle.sk_docs.specs.Taken.{StandFrom}
use Rattle.sk_docs.proofs.TakenLemmas.{stand_rest, stand_behind, none_here}
use Rattle.sk_docs.proofs.taking.taken.Goals as goal
use Rattle.sk_docs.proofs.taking.taken.Goals.{in_default-via-in-Some+else-first-place, in_default-via-in_default}

pub returns-in-Some-clause-stand : goal.returns-in-Some-clause-stand
returns-in-Some-clause-stand c =
    stand_rest c.args.place c.in-Some.first.now c.in-Some.rest.now c.if-first-place.true (subst (StandFrom c.args.place) c.in-Some.ensures.cases.0 c.requires.stand)

pub returns-in_default-clause-stand : goal.returns-in_default-clause-stand
returns-in_default-clause-stand c =
    elim c.in_default.branch [
      | in_default-via-in-Some+else-first-place w ↦
          subst (StandFrom (c.args.place + 1)) (sym w.in-Some.ensures.cases.0)
          (stand_behind c.args.place w.in-Some.first.now w.in-Some.rest.now w.if-first-place.false (subst (StandFrom c.args.place) w.in-Some.ensures.cases.0 c.requires.stand))
      | in_default-via-in_default w ↦ search rules
    ]

pub returns-in_default-clause-value : goal.returns-in_default-clause-value
returns-in_default-clause-value c = sym (none_here c.args.place c.args.values.now (returns-in_default-clause-stand c))
