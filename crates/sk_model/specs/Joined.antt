-- Documents that stand in several parts and are searched as one: what is known of them without reading a list, and how many readings are enough.
-- Source: Xapian's API documentation (`Database::add_database`, several databases searched as one). The bounds are own.
use Rattle.std.specs.Prelude.{ℕ, ◌+◌, ◌==◌, List, [], ◌∷◌, length, map, sum_by, Option, Some, None, if◌then◌else◌}
use Rattle.std.specs.Option.{option_map}
use Rattle.sk_sorted.specs.Joined.{part_in, parts_in, point_in}
use Rattle.sk_base.specs.declared.find.Paging.{Paging}
use Rattle.sk_base.specs.declared.find.Scheme.{Scheme}
use Rattle.sk_base.specs.Numbers.{Docs}
use Rattle.sk_query.specs.declared.form.Form.{Form}
use Rattle.sk_query.specs.Trees.{Tree, term, parts}
use Rattle.sk_model.specs.Allowance.{allowance}
use Rattle.sk_model.specs.Bounds.{ceil, static_count, greatest_in}
use Rattle.sk_model.specs.Matches.{found_by}
use Rattle.sk_model.specs.Settled.{settled}
use Rattle.sk_model.specs.Sharp.{is_plain, terms_in, up, ups, at_most, sharp}

-- The documents of a part, of n parts, under the ids that they have there.
abbrev pub part_docs : ℕ → ℕ → Docs → Docs
part_docs n part docs = part_in n part docs

-- No document of n parts weighs more under the query: the greatest of what is known so of each part.
abbrev pub joined_ceil : ℕ → Tree → Scheme → Docs → ℕ
joined_ceil n query scheme docs = greatest_in (map (λ part. ceil query scheme 1 part) (parts_in n docs))

-- No more documents of n parts match the query: the sum of what is known so of each part.
abbrev pub joined_static : ℕ → Tree → Docs → ℕ
joined_static n query docs = sum_by (λ part. static_count query part) (parts_in n docs)

-- The lists of a term, or of an or of terms.
abbrev pub term_lists : Tree → Option (List (List ℕ))
term_lists (term t) = Some (t ∷ [])
term_lists (parts Form.Or ts) = terms_in ts
term_lists _ = None

-- Of each list its postings up to an id, and one more in each part.
abbrev pub joined_ups : ℕ → List (List ℕ) → ℕ → Docs → ℕ
joined_ups n [] id docs = 0
joined_ups n (t ∷ ts) id docs = (up t id docs + n) + joined_ups n ts id docs

-- Of each list its postings in the parts, from one on, up to the id among all, and one more in each.
abbrev pub part_ups : ℕ → ℕ → List (List ℕ) → ℕ → List Docs → ℕ
part_ups n part lists id [] = 0
part_ups n part lists id (docs ∷ more) = ups lists (point_in n part id) docs + part_ups n (part + 1) lists id more

-- The point at which a page by relevance is settled, where nothing in n parts weighs more than is known.
abbrev pub joined_stop_point : ℕ → Tree → Paging → Docs → ℕ
joined_stop_point n query paging docs = settled paging (found_by query paging docs) (joined_ceil n query paging.options.scheme docs)

-- The stop number over n parts: of each list its postings up to the stop point, one more in each part, and the hits. It applies to a term and to an or of terms, by relevance and without collapsing.
abbrev pub joined_stop : ℕ → Tree → Paging → Docs → ℕ → Option ℕ
joined_stop n query paging docs hits =
    if is_plain paging then option_map (λ lists. joined_ups n lists (joined_stop_point n query paging docs) docs + hits) (term_lists query) else None

-- The most steps of a find over n parts: the least of the allowance and of the stop number, where that applies.
abbrev pub joined_most : ℕ → Tree → Paging → Docs → ℕ → ℕ
joined_most n query paging docs hits = at_most (allowance query paging docs (length (found_by query paging docs)) hits) (joined_stop n query paging docs hits)

-- ---- whatever the number of parts: one part has the bounds of an index by itself

-- No document weighs more.
abbrev pub ceil_in : ℕ → Tree → Scheme → Docs → ℕ
ceil_in n query scheme docs = if n == 1 then ceil query scheme 1 docs else joined_ceil n query scheme docs

-- No more documents match.
abbrev pub static_in : ℕ → Tree → Docs → ℕ
static_in n query docs = if n == 1 then static_count query docs else joined_static n query docs

-- No find of so many hits takes more steps.
abbrev pub most_in : ℕ → Tree → Paging → Docs → ℕ → ℕ
most_in n query paging docs hits = if n == 1 then sharp query paging docs hits else joined_most n query paging docs hits
