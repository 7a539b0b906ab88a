use Rattle.std.proofs.Common.{rules}
use Rattle.serde_json.specs.View.{view}
use Rattle.sk_record.proofs.TakenLemmas.{pair_left}
use Rattle.sk_record.proofs.rows.replace_by_row.Goals as goal

pub returns-in_err-pair : goal.returns-in_err-pair
returns-in_err-pair c =
    let found = pair_left (view c.args.line.now) _ c.in_ok-given.ensures.left in
    search (rules, found)

pub returns : goal.returns
returns c =
    let found = pair_left (view c.args.line.now) _ c.in_ok-given.ensures.left in
    search (rules, found)
