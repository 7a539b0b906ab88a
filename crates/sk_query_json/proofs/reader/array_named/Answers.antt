use Rattle.std.proofs.Common.{◌∙◌}
use Rattle.sk_query_json.proofs.ReadingLemmas.{filled_items}
use Rattle.sk_query_json.proofs.reader.array_named.Goals as goal

pub returns-in-len1-up-clause-ok : goal.returns-in-len1-up-clause-ok
returns-in-len1-up-clause-ok c = rw (filled_items c.args.name.now c.args.items.now c.in-len1-up.len_at_least) c.filled_named.ensures.ok

pub returns-in-len1-up-clause-shape : goal.returns-in-len1-up-clause-shape
returns-in-len1-up-clause-shape c = λ e. filled_items c.args.name.now c.args.items.now c.in-len1-up.len_at_least ∙ c.filled_named.ensures.shape e
