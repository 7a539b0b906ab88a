-- How many parts there are.
use Rattle.std.proofs.Common.{◌≡◌, List, [], ◌∷◌, length, refl, arith}
use Rattle.sk_query.specs.declared.query.Query.{Query}
use Rattle.sk_query.specs.Trees.{queries_view}
use Rattle.sk_tree.specs.Opened.{part_count}

pub counted : (qs : List Query) → part_count (queries_view qs) ≡ length qs
counted [] = refl
counted (q ∷ qs) = let rest = counted qs in omega (arith, rest)
