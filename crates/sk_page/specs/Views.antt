-- A page: what one is that was opened, that saw a match, and that is reported.
-- Source: Own.
use Rattle.std.specs.Prelude.{◌≡◌, ◌≢◌, ◌≤◌, ◌<◌, ◌+◌, ◌-◌, ◌/◌, ◌^◌, ◌⊎◌, ℕ, Bool, true, false, None, List, [], length, drop, map, All, IfSome, Option, if◌then◌else◌}
use Rattle.std.specs.Ordering.{is_le}
use Rattle.sk_base.specs.Before.{value_cmp}
use Rattle.sk_base.specs.declared.find.Paging.{Paging}
use Rattle.sk_base.specs.declared.rank.OrderBy.TheVariants as OrderBy
use Rattle.sk_base.specs.declared.rank.SortKey.{SortKey}
use Rattle.sk_heap.specs.Held.{offered}
use Rattle.sk_base.specs.declared.rank.Rank.{Rank}
use Rattle.sk_base.specs.declared.report.Report.{Report}
use Rattle.sk_base.specs.Numbers.{Docs}
use Rattle.sk_query.specs.Trees.{Tree}
use Rattle.sk_model.specs.Allowance.{key_readings, value_readings}
use Rattle.sk_model.specs.Edits.{document_at}
use Rattle.sk_model.specs.Matches.{key_for, found_by}
use Rattle.sk_model.specs.Settled.{settled}
use Rattle.sk_model.specs.Sharp.{is_plain}
use Rattle.sk_heap.specs.declared.hit.Hit.{Hit}
use Rattle.sk_collapse.specs.Collapsed.{group_of}
use Rattle.sk_page.specs.Walks.{page_end, Walk}
use Rattle.sk_page.specs.Pages.{CollapsesBy, Offers, Pages}
use Rattle.sk_page.specs.Calm.{IsCalm}
use Rattle.sk_page.specs.Hits.{value_in_order, ranked_of, kept_count}
use Rattle.sk_page.specs.declared.page.Page.{Page}
use Rattle.sk_page.specs.declared.page.Bounds.{Bounds}

-- A page of this find that saw nothing.
pub record OpensPage (paging : Paging) (page : Page) : Type 0 where
  pub options : page.options ≡ paging.options
  pub order : page.order ≡ paging.order
  pub collapse : page.collapse ≡ paging.collapse
  pub heap : page.heap ≡ record { order = paging.order; most = page_end paging; room = page_end paging; hits = [] }
  pub collapser : (key : Rank → List ℕ) → CollapsesBy paging.collapse paging.order key [] page.collapser
  pub seen : page.seen ≡ 0
  pub read : page.read ≡ 0

-- A page is that of this find over documents of which it saw some, where none is known to weigh more than the greatest; a search that goes on is given what covers the others, under the need.
pub record PageOf (page : Page) (query : Tree) (paging : Paging) (docs : Docs) (greatest : ℕ) (give : ℕ → Option ℕ) (need : ℕ) : Type 0 where
  pub options : page.options ≡ paging.options
  pub order : page.order ≡ paging.order
  pub collapse : page.collapse ≡ paging.collapse
  pub saw : List Rank
  pub seen : page.seen ≡ length saw
  pub walk : Walk query paging docs give need saw
  pub pages : Pages paging docs walk.last saw page.heap page.collapser
  pub read : page.read ≤ key_readings paging.collapse (length saw) + value_readings paging.order.by (length saw)
  pub calm : is_plain paging ≡ true → IsCalm query paging docs (settled paging (found_by query paging docs) greatest) walk.last need

-- A page may see a match of this id and weight: behind all that it saw, which are few.
pub record MaySee (page : Page) (id weight : ℕ) : Type 0 where
  pub few : page.seen + 1 < 2 ^ 32
  pub read : page.read + 2 < 2 ^ 64
  pub light : weight < 2 ^ 127
  pub room : page.heap.room ≡ page.heap.most
  pub under : All (λ h. h.rank.id < id) page.heap.hits
  pub known : IfSome page.collapser (λ c. c.seen + 1 < 2 ^ 32)
  pub apart : IfSome page.collapser (λ c. (k : List ℕ) → 0 < length k → All (λ r. r.id ≢ id) (group_of k c.groups).kept)

-- It saw a document with this weight: as a hit with its value and its key it was offered to the heap.
pub record Sees (docs : Docs) (id weight : ℕ) (old new : Page) : Type 0 where
  pub hit : Hit
  pub rank : hit.rank ≡ record { weight = weight; value = value_in_order old.order.by (document_at id docs); id = id }
  pub key : hit.key ≡ key_for old.collapse (document_at id docs)
  pub offers : Offers old.heap new.heap old.collapser new.collapser hit
  pub seen : new.seen ≡ old.seen + 1
  pub read : new.read ≡ old.read + (value_readings old.order.by 1 + key_readings old.collapse 1)
  pub options : new.options ≡ old.options
  pub order : new.order ≡ old.order
  pub collapse : new.collapse ≡ old.collapse

-- Nothing is collapsed, and a match whose value comes behind the last one in the order of the key falls out at once.
pub record IsEdge (page : Page) (key : SortKey) (last : List ℕ) : Type 0 where
  pub single : page.collapser ≡ None
  pub by : (page.heap.order.by ≡ OrderBy.Value key) ⊎ (page.heap.order.by ≡ OrderBy.ValueThenRelevance key)
  pub falls : (hit : Hit) → is_le (value_cmp key hit.rank.value last) ≡ false → offered hit page.heap ≡ page.heap

-- How many of the matches that it saw are kept.
abbrev pub kept_by_page : Page → ℕ
kept_by_page page = kept_count page.collapser page.seen

-- How many matches are kept at the most, where it saw all, and where there are no more than so many.
abbrev pub upper_count : Page → ℕ → Bool → ℕ
upper_count page most whole = if whole then kept_by_page page else most - (page.seen - kept_by_page page)

-- Its counts fit: no more are kept than were seen, and no more were dropped than there are.
pub record MayReport (page : Page) (most : ℕ) (whole : Bool) : Type 0 where
  pub kept : kept_by_page page ≤ page.seen
  pub dropped : page.seen - kept_by_page page ≤ most
  pub small : most < 2 ^ 32
  pub rising : kept_by_page page ≤ upper_count page most whole

-- The report of a page, under these bounds, after so many readings of lists.
pub record Reports (docs : Docs) (page : Page) (bounds : Bounds) (whole : Bool) (spent : ℕ) (report : Report) : Type 0 where
  pub hits : report.hits ≡ map (ranked_of docs page.collapser) (drop page.options.first page.heap.hits)
  pub lower : report.lower ≡ kept_by_page page
  pub upper : report.upper ≡ upper_count page bounds.most whole
  pub estimate : report.estimate ≡ report.lower + (report.upper - report.lower) / 2
  pub greatest : report.greatest ≡ bounds.greatest
  pub steps : report.steps ≡ spent + (page.read + length report.hits)
