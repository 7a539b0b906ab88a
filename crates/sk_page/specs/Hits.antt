-- What a page reads of a match, and what it tells of one.
use Rattle.std.specs.Prelude.{ℕ, List, [], Option, None, Some}
use Rattle.sk_base.specs.declared.rank.OrderBy.{OrderBy}
use Rattle.sk_base.specs.declared.report.Ranked.{Ranked}
use Rattle.sk_base.specs.Documents.{value_in}
use Rattle.sk_base.specs.Numbers.{Docs}
use Rattle.sk_model.specs.Documents.{Document}
use Rattle.sk_model.specs.Edits.{document_at}
use Rattle.sk_model.specs.Matches.{value_by}
use Rattle.sk_model.specs.Reports.{payload_of}
use Rattle.sk_heap.specs.declared.hit.Hit.{Hit}
use Rattle.sk_collapse.specs.Collapsed.{Collapsed, group_of}

-- The value of a document in a slot, and the empty one where it is not there.
abbrev pub value_in_slot : ℕ → Option Document → List ℕ
value_in_slot slot None = []
value_in_slot slot (Some document) = value_in slot document.values

-- The value that an order reads of a document, and the empty one where it is not there.
abbrev pub value_in_order : OrderBy → Option Document → List ℕ
value_in_order by None = []
value_in_order by (Some document) = value_by by document

-- How many of a key are dropped: none where nothing is collapsed.
abbrev pub dropped_of : Option Collapsed → List ℕ → ℕ
dropped_of None k = 0
dropped_of (Some c) k = (group_of k c.groups).dropped

-- A hit with its document's payload, and how many were collapsed into it.
abbrev pub ranked_of : Docs → Option Collapsed → Hit → Ranked
ranked_of docs c hit = record { id = hit.rank.id; weight = hit.rank.weight; collapsed = dropped_of c hit.key; payload = payload_of (document_at hit.rank.id docs) }

-- How many matches are kept of so many that were seen: all where nothing is collapsed.
abbrev pub kept_count : Option Collapsed → ℕ → ℕ
kept_count None seen = seen
kept_count (Some c) seen = c.kept
