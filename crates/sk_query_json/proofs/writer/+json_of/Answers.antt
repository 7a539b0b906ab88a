use Rattle.std.proofs.Common.{◌≡◌, IfOk, subst, arith}
use Rattle.serde_json.specs.Data.{array}
use Rattle.serde_json.specs.View.{view}
use Rattle.sk_query_json.specs.Writing.{named}
use Rattle.sk_query_json.proofs.ValueLemmas.{all_made}
use Rattle.sk_query_json.proofs.writer.+json_of.Goals as goal

pub parts_named-returns : goal.parts_named-returns
parts_named-returns t c =
    let items = all_made c.parts.made.items c.args.parts.now c.parts.part-index (omega arith) c.parts.invariant in
    subst (λ d. IfOk c.array_named.result (λ value. view value ≡ d)) (λ i. named (c.name.ensures i) (array (items i))) c.array_named.ensures
