use Rattle.std.proofs.Common.{Some, ap}
use Rattle.serde_json.specs.View.{view}
use Rattle.sk_base.specs.Commands.{command_over}
use Rattle.sk_run.proofs.MachineLemmas.{obeyed}
use Rattle.sk_run.proofs.machine.Machine.obey.Goals as goal

pub returns-in_ok-store-in-Some-default-clause-obeyed : goal.returns-in_ok-store-in-Some-default-clause-obeyed
returns-in_ok-store-in-Some-default-clause-obeyed g c =
    rw c.in-Some-default.is-0
    (obeyed g.M.Store.under g.M.Store.holds g.M.Store.conduct c.in-Some-default.store c.in_ok-store-in-Some-default.store (command_over view c.args.command) c.in_ok-store-in-Some-default.response c.in_ok-store-in-Some-default.ensures.did c.in_ok-store-in-Some-default.ensures.schema)

pub returns-in_ok-store-in-Some-default-clause-schema : goal.returns-in_ok-store-in-Some-default-clause-schema
returns-in_ok-store-in-Some-default-clause-schema g c = rw c.in-Some-default.is-0 (ap Some c.in_ok-store-in-Some-default.ensures.schema)

pub obey-requires : goal.obey-requires
obey-requires g c = rw c.in-Some-default.is-0 at c.requires
