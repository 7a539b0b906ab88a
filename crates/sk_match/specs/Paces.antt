-- How far a search of terms alone has read its lists.
use Rattle.std.specs.Prelude.{ℕ, List}
use Rattle.sk_base.specs.declared.find.Paging.{Paging}
use Rattle.sk_query.specs.Trees.{Tree}
use Rattle.sk_model.specs.Matches.{found_by}
use Rattle.sk_model.specs.Sharp.{ups}
use Rattle.sk_index.specs.Indexed.{Indexed}
use Rattle.sk_report.specs.Paces.{reached_by}
use Rattle.sk_match.specs.declared.open_search.Search.{Search}

-- Each list up to the last match that a search saw, and one entry more.
abbrev pub ups_seen : List (List ℕ) → Paging → Tree → Indexed → Search → ℕ
ups_seen lists paging query index search = ups lists (reached_by search.page.seen (found_by query paging index.live.documents)) index.live.documents
