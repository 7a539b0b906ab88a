use Rattle.std.proofs.Common.{◌≡◌, drop}
use Rattle.serde_json.specs.View.{items_view}
use Rattle.sk_query.specs.Trees.{queries_view}
use Rattle.sk_query_json.specs.Reading.{read_trees}
use Rattle.sk_query_json.proofs.ReadingLemmas.{with_read}
use Rattle.sk_query_json.proofs.reader.+read_tree.Given as goal

-- the queries so far, and those of the items that are left, are those of all
abbrev pub invariant-read_trees-items : goal.invariant-read_trees-items
invariant-read_trees-items l = with_read (queries_view l.made.items) (drop l.item-index l.items) ≡ read_trees (items_view l.items)
