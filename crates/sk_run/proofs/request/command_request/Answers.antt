use Rattle.std.proofs.Common.{Ok, sym, ◌∙◌}
use Rattle.std.specs.Option.{option_copied}
use Rattle.serde_json.specs.View.{view}
use Rattle.sk_base.specs.Commands.{command_over}
use Rattle.sk_run.proofs.MachineLemmas.{line_meant}
use Rattle.sk_run.proofs.request.command_request.Goals as goal

pub returns-in-Ok-clause-asks : goal.returns-in-Ok-clause-asks
returns-in-Ok-clause-asks c = line_meant (option_copied c.args.schema) c.args.line.now (Ok (command_over view c.in-Ok.command)) c.requires (sym c.is_blank.ensures ∙ c.if-is_blank.false) c.in-Ok.ensures.reads
