use Rattle.std.proofs.Common.{ap, List, length}
use Rattle.sk_base.specs.declared.schema.Field.{Field}
use Rattle.sk_run.specs.declared.response.Response.TheVariants as Response
use Rattle.sk_run.proofs.MachineLemmas.{accepted}
use Rattle.sk_run.proofs.machine.accept_schema.Goals as goal

pub returns-clause-obeyed : goal.returns-clause-obeyed
returns-clause-obeyed g c =
    accepted g.M.Store.under g.M.Store.holds g.M.Store.conduct c.in_ok-store.store c.args.schema c.args.parts _ c.in_ok-store.ensures.schema c.in_ok-store.ensures.holds
    (ap (λ (fields : List Field). Response.Schema (length fields)) c.fields-fields.ensures.value)
