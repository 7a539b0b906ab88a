use Rattle.std.proofs.Common.{ap, ◌∙◌}
use Rattle.std.proofs.lemmas.Str.{is_utf8-from_IsUtf8}
use Rattle.std.specs.Option.{option_copied}
use Rattle.serde_json.specs.View.{view}
use Rattle.sk_base.specs.Finds.{find_over}
use Rattle.sk_run.specs.Queries.{find_by}
use Rattle.sk_run.proofs.MachineLemmas.{not_utf8, none_asked, not_text, text_asked}
use Rattle.sk_run.proofs.request.query_request.Goals as goal

pub returns-in_default-clause-asks : goal.returns-in_default-clause-asks
returns-in_default-clause-asks c = none_asked c.args.join (option_copied c.args.schema) c.args.line.now (ap option_copied c.in_default.is) c.requires

pub returns-in_ok-find-in-Ok-clause-asks : goal.returns-in_ok-find-in-Ok-clause-asks
returns-in_ok-find-in-Ok-clause-asks c =
    text_asked c.args.join (option_copied c.args.schema) _ c.args.line.now (find_over view c.in_ok-find-in-Ok.find) (ap option_copied c.in-Some.is) c.requires (is_utf8-from_IsUtf8 c.args.line.now c.in-Ok.ensures.cases.1)
    (c.in_ok-find-in-Ok.ensures ∙ ap (find_by c.args.join) c.in-Ok.ensures.cases.0)

pub returns-in-Err-clause-asks : goal.returns-in-Err-clause-asks
returns-in-Err-clause-asks c = not_text c.args.join (option_copied c.args.schema) _ c.args.line.now (ap option_copied c.in-Some.is) c.requires (not_utf8 c.args.line.now c.in-Err.ensures.cases.0)
