use Rattle.std.proofs.Common.{sym, ◌∙◌, ap, option_map}
use Rattle.serde_json.specs.View.{view}
use Rattle.sk_record.specs.FieldRules.{command_of}
use Rattle.sk_record.specs.Shown.{shape_shown}
use Rattle.sk_base.specs.Commands.{command_over}
use Rattle.sk_record.proofs.ShapeLemmas.{later_fits}
use Rattle.sk_record.proofs.CommandLemmas.{command_comes}
use Rattle.sk_record.proofs.reader.later_command.Goals as goal

pub returns-in-Some-2-clause-comes : goal.returns-in-Some-2-clause-comes
returns-in-Some-2-clause-comes c =
    let shape = shape_shown c.in-Some.row in
    command_comes c.args.schema.now shape c.in-Some-2.command c.fields.ensures.sound
    (later_fits (view c.args.value.now) shape (sym c.in-Some.ensures))
    (ap (λ fields. command_of fields shape) (sym c.fields.ensures.value) ∙ sym c.in_ok-command.ensures ∙ ap (option_map (command_over view)) c.in-Some-2.is)
