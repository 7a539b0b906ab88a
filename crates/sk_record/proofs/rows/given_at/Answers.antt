use Rattle.std.proofs.Common.{Some, None, ap, rules, ◌∙◌}
use Rattle.std.specs.Option.{option_and_then}
use Rattle.serde_json.specs.View.{view}
use Rattle.sk_record.specs.Rows.{values_object}
use Rattle.sk_record.proofs.TakenLemmas.{given_taken}
use Rattle.sk_record.proofs.rows.given_at.Goals as goal

pub returns-in_err-take_member-clause-given : goal.returns-in_err-take_member-clause-given
returns-in_err-take_member-clause-given c =
    let none = given_taken c.args.name.now (view c.args.line.now) (view c.payload_at.new.line) c.in_ok-payload.payload None c.in_ok-payload.ensures.text c.payload_at.ensures.left
    (ap (option_and_then values_object) c.in_err-take_member.ensures.taken) in
    search (rules, none)

pub returns-in_err-values-clause-given : goal.returns-in_err-values-clause-given
returns-in_err-values-clause-given c =
    let none = given_taken c.args.name.now (view c.args.line.now) (view c.payload_at.new.line) c.in_ok-payload.payload None c.in_ok-payload.ensures.text c.payload_at.ensures.left
    (c.in_err-values.ensures ∙ ap (option_and_then values_object) c.in_ok-take_member.ensures.taken) in
    search (rules, none)

pub returns-clause-given : goal.returns-clause-given
returns-clause-given c =
    given_taken c.args.name.now (view c.args.line.now) (view c.payload_at.new.line) c.in_ok-payload.payload (Some (view c.in_ok-values.values)) c.in_ok-payload.ensures.text c.payload_at.ensures.left
    (c.in_ok-values.ensures ∙ ap (option_and_then values_object) c.in_ok-take_member.ensures.taken)
