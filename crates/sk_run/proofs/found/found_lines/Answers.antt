use Rattle.std.proofs.Common.{arith, string_bytes, ap, ◌∙◌}
use Rattle.std.proofs.lemmas.Grind.{common_steps}
use Rattle.json.specs.Print.{quoted}
use Rattle.sk_run.proofs.FoundLemmas.{next_line}
use Rattle.sk_run.proofs.found.found_lines.Goals as goal

pub hits-init : goal.hits-init
hits-init c = grind (arith, common_steps)

pub push_hit_line-requires : goal.push_hit_line-requires
push_hit_line-requires c = c.as_str-in-hits.ensures.value ∙ c.in_ok-payload.ensures ∙ ap quoted c.as_str.ensures

pub hits-preserved : goal.hits-preserved
hits-preserved c =
    next_line (string_bytes c.hits.text) (string_bytes c.push_hit_line.new.text) c.args.first c.hits.i c.as_slice-hits.result.now c.index-hits-i.result c.hits-test.true c.index-hits-i.is c.in_ok-push_hit_line.ensures
    ∙ c.hits.invariant
