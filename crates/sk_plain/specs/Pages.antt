-- The report of a find, exactly.
use Rattle.std.specs.Prelude.{ℕ, List, map, length}
use Rattle.sk_base.specs.declared.find.Paging.{Paging}
use Rattle.sk_base.specs.declared.rank.Rank.{Rank}
use Rattle.sk_base.specs.declared.report.Ranked.{Ranked}
use Rattle.sk_base.specs.declared.report.Report.{Report}
use Rattle.sk_base.specs.Numbers.{Docs}
use Rattle.sk_query.specs.Trees.{Tree}
use Rattle.sk_model.specs.Edits.{document_at}
use Rattle.sk_model.specs.Matches.{found_by, key_of}
use Rattle.sk_model.specs.Bounds.{ceil}
use Rattle.sk_model.specs.Counts.{kept_by, dropped_by}
use Rattle.sk_model.specs.Reports.{payload_of, page_of}
use Rattle.sk_model.specs.Sharp.{sharp}
use Rattle.sk_model.specs.Joined.{joined_ceil, joined_most}

-- A match of these as a hit: its id and weight, its document's payload, and how many of them were collapsed into it.
abbrev pub hit_of : Paging → Docs → List Rank → Rank → Ranked
hit_of paging docs ranks rank = record {
  id = rank.id;
  weight = rank.weight;
  collapsed = dropped_by paging docs (key_of paging.collapse docs rank) ranks;
  payload = payload_of (document_at rank.id docs);
}

-- The hits of the page that a find asks for.
abbrev pub hits_of : Tree → Paging → Docs → List Ranked
hits_of query paging docs = map (hit_of paging docs (found_by query paging docs)) (page_of query paging docs)

-- How many matches a find keeps in all.
abbrev pub count_of : Tree → Paging → Docs → ℕ
count_of query paging docs = length (kept_by paging docs (found_by query paging docs))

-- The report of a find over documents in n parts, exactly: the hits of its page, the true count as both bounds, what no document can weigh more than, by what is known of each part, and the most steps that the rules allow.
abbrev pub report_in_parts : ℕ → Tree → Paging → Docs → Report
report_in_parts n query paging docs = record {
  hits = hits_of query paging docs;
  lower = count_of query paging docs;
  estimate = count_of query paging docs;
  upper = count_of query paging docs;
  greatest = joined_ceil n query paging.options.scheme docs;
  steps = joined_most n query paging docs (length (hits_of query paging docs));
}

-- The report of a find, exactly: the hits of its page, the true count as both bounds, what no document can weigh more than, and the most steps that the rules allow.
abbrev pub report_for : Tree → Paging → Docs → Report
report_for query paging docs = record {
  hits = hits_of query paging docs;
  lower = count_of query paging docs;
  estimate = count_of query paging docs;
  upper = count_of query paging docs;
  greatest = ceil query paging.options.scheme 1 docs;
  steps = sharp query paging docs (length (hits_of query paging docs));
}
