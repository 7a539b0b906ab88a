use Rattle.sk_run.proofs.machine.Machine.answer.Goals as goal

pub returns-in-Asks-clause-answered : goal.returns-in-Asks-clause-answered
returns-in-Asks-clause-answered g c = rw c.in-Asks.is c.obey.ensures.obeyed

pub returns-in-Asks-clause-schema : goal.returns-in-Asks-clause-schema
returns-in-Asks-clause-schema g c = rw c.in-Asks.is c.obey.ensures.schema

pub returns-in-Asks-clause-still : goal.returns-in-Asks-clause-still
returns-in-Asks-clause-still g c = rw c.in-Asks.is c.obey.ensures.still
