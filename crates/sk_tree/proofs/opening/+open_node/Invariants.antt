-- How large what is opened is.
use Rattle.std.proofs.Common.{◌+◌, ◌*◌, length}
use Rattle.sk_query.specs.Trees.{query_view, queries_view}
use Rattle.sk_tree.specs.Opened.{query_size, parts_size}
use Rattle.sk_tree.proofs.opening.+open_node.Given as goal

abbrev pub decreases-open_node : goal.decreases-open_node
decreases-open_node g l = 3 * query_size (query_view l.query.now)

abbrev pub decreases-open_parts : goal.decreases-open_parts
decreases-open_parts g l = 3 * parts_size (queries_view l.parts.now) + 2

abbrev pub decreases-open_sides : goal.decreases-open_sides
decreases-open_sides g l = 3 * parts_size (queries_view l.parts.now) + 1

abbrev pub decreases-open_proximity : goal.decreases-open_proximity
decreases-open_proximity g l = 3 * length l.words.now + 8
