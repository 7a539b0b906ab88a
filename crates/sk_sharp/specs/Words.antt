-- Queries that are one term.
use Rattle.std.specs.Prelude.{ℕ, List, Option, Some, None}
use Rattle.sk_query.specs.Trees.{Tree, term}

-- The term of a query that is one.
abbrev pub word_of : Tree → Option (List ℕ)
word_of (term t) = Some t
word_of _ = None
