-- The live documents that a query matches.
-- Source: Xapian's API documentation (`Enquire`, `Query`, `Enquire::set_cutoff` with a weight).
use Rattle.std.specs.Prelude.{ℕ, nat_le, List, [], filter, Option, Some, None}
use Rattle.std.specs.List.{filter_map}
use Rattle.std.specs.Option.{option_map}
use Rattle.sk_base.specs.declared.find.Collapse.{Collapse}
use Rattle.sk_base.specs.declared.find.Paging.{Paging}
use Rattle.sk_base.specs.declared.find.Scheme.{Scheme}
use Rattle.sk_base.specs.declared.rank.Order.{Order}
use Rattle.sk_base.specs.declared.rank.OrderBy.{OrderBy}
use Rattle.sk_base.specs.declared.rank.Rank.{Rank}
use Rattle.sk_base.specs.Documents.{value_in}
use Rattle.sk_base.specs.Numbers.{Docs}
use Rattle.sk_query.specs.Trees.{Tree}
use Rattle.sk_model.specs.Documents.{Document}
use Rattle.sk_model.specs.Edits.{document_at}
use Rattle.sk_model.specs.Scores.{score}

-- The value that an order reads of a document, and the empty one where it has none.
abbrev pub value_by : OrderBy → Document → List ℕ
value_by OrderBy.Relevance document = []
value_by (OrderBy.Value key) document = value_in key.slot document.values
value_by (OrderBy.ValueThenRelevance key) document = value_in key.slot document.values
value_by (OrderBy.RelevanceThenValue key) document = value_in key.slot document.values

abbrev pub value_for : Order → Document → List ℕ
value_for order document = value_by order.by document

-- A document's rank, where the query matches it.
abbrev pub rank_of : Tree → Scheme → Order → ℕ × Document → Option Rank
rank_of query scheme order one = option_map (λ w. record { weight = w; value = value_for order one.1; id = one.0 }) (score query scheme 1 one.1)

-- All live documents that the query matches, each scored by itself, by rising id.
abbrev pub matches : Tree → Scheme → Order → Docs → List Rank
matches query scheme order docs = filter_map (rank_of query scheme order) docs

-- Those that weigh at least so much.
abbrev pub at_least : ℕ → List Rank → List Rank
at_least cutoff ranks = filter (λ rank. nat_le cutoff rank.weight) ranks

-- All that a find matches: what weighs less than its cutoff is no match.
abbrev pub found_by : Tree → Paging → Docs → List Rank
found_by query paging docs = at_least paging.options.cutoff (matches query paging.options.scheme paging.order docs)

-- The key that a document is collapsed on: its value in the slot, and the empty one where it has none, or where nothing is collapsed.
abbrev pub key_for : Option Collapse → Option Document → List ℕ
key_for None document = []
key_for (Some collapse) None = []
key_for (Some collapse) (Some document) = value_in collapse.slot document.values

-- The key of a match.
abbrev pub key_of : Option Collapse → Docs → Rank → List ℕ
key_of collapse docs rank = key_for collapse (document_at rank.id docs)
