use Rattle.std.proofs.Common.{ap, subst, rules}
use Rattle.sk_run.specs.Held.{ClosesHeld}
use Rattle.sk_run.specs.declared.response.Response.{Response}
use Rattle.sk_reference.specs.Searches.{Stands, Tells}
use Rattle.sk_reference.specs.Shelved.{Shelved, held_by}
use Rattle.sk_reference.proofs.HeldLaws.{flown, closes_one}
use Rattle.sk_reference.proofs.shelf.Shelf.close_search.Goals as goal

pub returns-clause-closes : goal.returns-clause-closes
returns-clause-closes g c =
    let shelf : Shelved = record { schema = c.self.inside.documents.schema; live = c.self.inside.documents.live; parts = c.self.inside.parts; flights = c.self.inside.flights } in
    subst (λ (old : Shelved). ClosesHeld Stands Tells c.args.number (held_by old) (Response.Closed c.first-first.result c.in_ok-report.report c.in_ok-report.report.steps) (held_by (flown shelf c.remove.new.self)))
    c.self.view_is
    (closes_one shelf (flown shelf c.remove.new.self) c.args.number c.in-Some.search.now c.first-first.result c.in_ok-report.report c.in_ok-report.report.steps
    (search rules) (search rules) (search rules) (search rules) c.first-first.ensures (ap (flown shelf) c.remove.ensures.left))
