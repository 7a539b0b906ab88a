use Rattle.std.proofs.Common.{sym, arith}
use Rattle.sk_json.proofs.ValueLemmas.{not_two}
use Rattle.sk_json.proofs.strings.pair_of.Goals as goal

pub returns-in-len1 : goal.returns-in-len1
returns-in-len1 c =
    let below = c.in-len1.len_below in
    sym (not_two c.args.items.now (λ e. omega arith))

pub returns-in-len3-up : goal.returns-in-len3-up
returns-in-len3-up c =
    let least = c.in-len3-up.len_at_least in
    sym (not_two c.args.items.now (λ e. omega arith))
