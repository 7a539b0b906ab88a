use Rattle.sk_run.proofs.machine.obey.Goals as goal

pub returns-in-Edit-clause-did : goal.returns-in-Edit-clause-did
returns-in-Edit-clause-did g c = rw c.in-Edit.is c.apply.ensures.did

pub apply-requires : goal.apply-requires
apply-requires g c = rw c.in-Edit.is at c.requires

pub fly-requires : goal.fly-requires
fly-requires g c = rw c.in-Flight.is at c.requires
