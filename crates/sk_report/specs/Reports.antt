-- When a report is one that a find may have.
-- Source: Xapian's API documentation (`MSet`). The steps are own.
use Rattle.std.specs.Prelude.{◌≡◌, ◌≤◌, ℕ, ◌+◌, ◌/◌, length}
use Rattle.std.specs.List.{AllZip}
use Rattle.sk_base.specs.declared.find.Paging.{Paging}
use Rattle.sk_base.specs.declared.report.Report.{Report}
use Rattle.sk_base.specs.Numbers.{Docs}
use Rattle.sk_query.specs.Trees.{Tree}
use Rattle.sk_model.specs.Bounds.{ceil, static_count}
use Rattle.sk_model.specs.Counts.{Counts}
use Rattle.sk_model.specs.Joined.{joined_ceil, joined_static, joined_most, ceil_in, static_in, most_in}
use Rattle.sk_model.specs.Matches.{found_by}
use Rattle.sk_model.specs.Reports.{page_of, IsHit}
use Rattle.sk_model.specs.Sharp.{sharp}

-- The hits are the asked page of all matching live documents, in order; the counts enclose the true one, where no document weighs more than the ceiling, and no more than so many match; the steps are within a bound by the number of hits.
pub record ReportsWithin (query : Tree) (paging : Paging) (docs : Docs) (ceiling static : ℕ) (most : ℕ → ℕ) (report : Report) : Type 0 where
  pub hits : AllZip (IsHit query paging docs) (page_of query paging docs) report.hits
  pub counts : Counts paging docs (found_by query paging docs) ceiling static report.lower report.upper
  pub estimate : report.estimate ≡ (report.lower + report.upper) / 2
  pub greatest : report.greatest ≡ ceiling
  pub least_steps : length report.hits ≤ report.steps
  pub most_steps : report.steps ≤ most (length report.hits)

-- Over the documents of one index; the steps are within the sharp bound: the allowance, and each number that applies.
abbrev pub ReportsFor : Tree → Paging → Docs → Report → Type 0
ReportsFor query paging docs report = ReportsWithin query paging docs (ceil query paging.options.scheme 1 docs) (static_count query docs) (sharp query paging docs) report

-- Over documents in n parts, searched as one: by what is known of each part, and within the steps that the parts allow.
abbrev pub ReportsOver : ℕ → Tree → Paging → Docs → Report → Type 0
ReportsOver n query paging docs report = ReportsWithin query paging docs (joined_ceil n query paging.options.scheme docs) (joined_static n query docs) (joined_most n query paging docs) report

-- Whatever the number of parts.
abbrev pub ReportsIn : ℕ → Tree → Paging → Docs → Report → Type 0
ReportsIn n query paging docs report = ReportsWithin query paging docs (ceil_in n query paging.options.scheme docs) (static_in n query docs) (most_in n query paging docs) report
