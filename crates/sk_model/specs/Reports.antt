-- The page that a find asks for, and what a hit of it tells.
-- Source: Xapian's API documentation (`MSet`).
use Rattle.std.specs.Prelude.{◌≡◌, ℕ, List, [], Option, Some, None}
use Rattle.sk_base.specs.declared.find.Paging.{Paging}
use Rattle.sk_base.specs.declared.rank.Rank.{Rank}
use Rattle.sk_base.specs.declared.report.Ranked.{Ranked}
use Rattle.sk_base.specs.Numbers.{Docs}
use Rattle.sk_query.specs.Trees.{Tree}
use Rattle.sk_model.specs.Documents.{Document}
use Rattle.sk_model.specs.Edits.{document_at}
use Rattle.sk_model.specs.Matches.{found_by, key_of}
use Rattle.sk_model.specs.Page.{slice}
use Rattle.sk_model.specs.Counts.{CollapseCount, kept_by}

-- The payload of a document, if it is there.
abbrev pub payload_of : Option Document → List ℕ
payload_of None = []
payload_of (Some document) = document.payload

-- The page that a find asks for.
abbrev pub page_of : Tree → Paging → Docs → List Rank
page_of query paging docs = slice paging.options.first paging.options.size (kept_by paging docs (found_by query paging docs))

-- A hit is a match of the page: its id and weight, its document's payload, and how many were collapsed into it.
pub record IsHit (query : Tree) (paging : Paging) (docs : Docs) (rank : Rank) (hit : Ranked) : Type 0 where
  pub id : hit.id ≡ rank.id
  pub weight : hit.weight ≡ rank.weight
  pub payload : hit.payload ≡ payload_of (document_at rank.id docs)
  pub collapsed : CollapseCount paging docs (found_by query paging docs) (key_of paging.collapse docs rank) hit.collapsed
