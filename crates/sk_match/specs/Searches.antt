-- What a search has seen, and what it still has to see.
use Rattle.std.specs.Prelude.{◌≡◌, ◌≤◌, ◌<◌, ℕ, ◌+◌, ◌-◌, ◌^◌, ◌||◌, ◌⊎◌, min, max, nat_le, Bool, true, false, List, [], ◌∷◌, length, filter, is_none, Option, None, Some, if◌then◌else◌}
use Rattle.std.specs.List.{AllByRecursion}
use Rattle.sk_base.specs.declared.find.Paging.{Paging}
use Rattle.sk_base.specs.declared.find.Scheme.{Scheme}
use Rattle.sk_base.specs.declared.rank.SortKey.{SortKey}
use Rattle.sk_sorted.specs.Entries.{first_id}
use Rattle.sk_query.specs.declared.form.Form.TheVariants as Form
use Rattle.sk_query.specs.Trees as Query
use Rattle.sk_query.specs.Fits.{is_sound}
use Rattle.sk_model.specs.Bounds.{ceil, static_count}
use Rattle.sk_model.specs.Covers.{CoversAt}
use Rattle.sk_model.specs.Edits.{last_id}
use Rattle.sk_model.specs.Matches.{found_by}
use Rattle.sk_model.specs.Settled.{stop_point, decay_point}
use Rattle.sk_model.specs.Sharp.{is_plain, flat_lists, ups, rare_lists, rare_readings, terms_in, decay_readings}
use Rattle.sk_index.specs.Indexed.{Indexed}
use Rattle.sk_tree.specs.Built.{gives, left, first_weight, Built}
use Rattle.sk_tree.specs.Stops.{PaysToStop, MayMove}
use Rattle.sk_tree.specs.Rare.{Rare}
use Rattle.sk_tree.specs.Decays.{Decays, MayFall}
use Rattle.sk_tree.specs.Skips.{Skips}
use Rattle.sk_tree.specs.declared.tree.Tree.{Tree}
use Rattle.sk_page.specs.Needs.{is_settled, need_for}
use Rattle.sk_report.specs.Paces.{reached_by}
use Rattle.sk_page.specs.Views.{PageOf, Sees, IsEdge}
use Rattle.sk_match.specs.declared.open_search.Search.{Search}

-- What a search still has to see: ids and weights, by rising id.
abbrev pub ahead : Indexed → Search → List (ℕ × ℕ)
ahead index search = left index search.tree

-- Those of them up to an id.
abbrev pub ahead_to : ℕ → Indexed → Search → List (ℕ × ℕ)
ahead_to id index search = filter (λ p. nat_le p.0 id) (ahead index search)

-- How many of them stand up to the point at which a page by relevance is settled.
abbrev pub left_to_stop : Paging → Query.Tree → Indexed → Search → ℕ
left_to_stop paging query index search = length (ahead_to (stop_point query paging index.live.documents) index search)

-- A search is done where nothing is ahead, or what is ahead cannot change its page.
abbrev pub is_done : Indexed → Search → Bool
is_done index search = is_none (first_id (ahead index search)) || is_settled search.page.options search.page.seen search.page.heap search.tree.top.greatest

-- The readings of a search so far: in lists, and of keys and values.
abbrev pub spent_by : Search → ℕ
spent_by search = search.tree.spent + search.page.read

-- The second of two terms fades behind the point at which it cannot bring a document into the page by itself.
abbrev pub DecaysBehind : Indexed → Paging → Query.Tree → Tree → List ℕ → List ℕ → Type 0
DecaysBehind index paging query tree a b =
    Decays index tree (decay_point query (Query.term b) paging index.live.documents) (ceil (Query.term b) paging.options.scheme 1 index.live.documents)
    (decay_readings a b (decay_point query (Query.term b) paging index.live.documents) index.live.documents 0)

-- What the tree of a search of this find and query may read: of terms alone it stops at the point at which a page by relevance is settled, where one of its lists leads it reads the others with it, of an or of two terms either may fade, and while nothing is asked for no list of terms alone is read by more than one entry behind the last match that was seen.
pub record TreeAccounts (index : Indexed) (paging : Paging) (query : Query.Tree) (seen need : ℕ) (tree : Tree) : Type 0 where
  pub stops : is_plain paging ≡ true → (lists : List (List ℕ)) → flat_lists query index.live.documents ≡ Some lists
      → PaysToStop index tree (stop_point query paging index.live.documents) (ups lists (stop_point query paging index.live.documents) index.live.documents)
  pub rare : (lists : List (List ℕ)) (m : ℕ) → rare_lists query index.live.documents ≡ Some (lists, m) → Rare index tree (rare_readings lists m index.live.documents)
  pub decays : is_plain paging ≡ true → (ts : Query.Trees) (a b : List ℕ) → query ≡ Query.parts Form.Or ts → terms_in ts ≡ Some (a ∷ b ∷ [])
      → DecaysBehind index paging query tree a b × DecaysBehind index paging query tree b a
  pub pace : (lists : List (List ℕ)) → flat_lists query index.live.documents ≡ Some lists → need ≡ 0
      → (point : ℕ) → reached_by seen (found_by query paging index.live.documents) ≤ point → PaysToStop index tree point (ups lists point index.live.documents)

-- A search is one of this find and query on this index: its tree is the query's, its bounds are the query's, and its page is that of a search that is given what the tree gives.
pub record Stands (search : Search) (index : Indexed) (paging : Paging) (query : Query.Tree) : Type 0 where
  pub built : Built search.tree index query paging.options.scheme
  pub sound : is_sound 1 query ≡ true
  pub bounds : search.bounds ≡ record { greatest = ceil query paging.options.scheme 1 index.live.documents; most = static_count query index.live.documents }
  pub need : search.need ≡ search.tree.need
  pub low : ceil query paging.options.scheme 1 index.live.documents < paging.options.cutoff → search.need ≤ paging.options.cutoff
  pub page : PageOf search.page query paging index.live.documents (ceil query paging.options.scheme 1 index.live.documents) (gives index search.tree) search.need
  pub accounts : TreeAccounts index paging query search.page.seen search.need search.tree

-- ---- a step of a search

-- A tree went past a document: of each live one behind it what is left covers what was, under the need, and of the others nothing is left.
abbrev pub TreePasses : Indexed → ℕ → Tree → Tree → ℕ → Type 0
TreePasses index id old new need =
    AllByRecursion (λ one. CoversAt (if nat_le (id + 1) one.0 then gives index old one.0 else None) (gives index new one.0) need) index.live.documents

-- A tree that went past a document goes on to stop at a point: where it may go so far under the need, and at the last id.
abbrev pub KeepsStops : Indexed → ℕ → ℕ → Tree → Tree → Type 0
KeepsStops index id need old new = (point most : ℕ) → PaysToStop index old point most → (id ≡ last_id) ⊎ MayMove point (id + 1) need old.top.greatest (gives index old point) → PaysToStop index new point most

-- A tree of an or of two terms that went past a document goes on to read no more: at the last id, where the need exceeds the ceiling, where the fading list was asked for up to the point alone, and where nothing of it is enough.
abbrev pub KeepsDecays : Indexed → ℕ → ℕ → Tree → Tree → Type 0
KeepsDecays index id need old new = (point greatest most : ℕ) → Decays index old point greatest most → (id ≡ last_id) ⊎ MayFall point greatest (id + 1) need old.top.greatest → Decays index new point greatest most

-- What a search asked its tree for behind a document: the need of its page with what it saw, and no less than before; or nothing is left behind the last id.
abbrev pub AsksBehind : Indexed → ℕ → Search → Search → Type 0
AsksBehind index id old new =
    ((new.need ≡ old.need) × (id ≡ last_id) × (ahead index new ≡ []))
    ⊎ (new.need ≡ max old.need (need_for old.page.options old.page.seen old.page.heap old.tree.top.greatest))

-- A search went past a document, and saw nothing.
pub record PassesUnseen (index : Indexed) (id : ℕ) (old new : Search) : Type 0 where
  pub over : TreePasses index id old.tree new.tree new.need
  pub built : (query : Query.Tree) (scheme : Scheme) → Built old.tree index query scheme → Built new.tree index query scheme
  pub need : new.need ≡ new.tree.need
  pub asked : AsksBehind index id old new
  pub stops : KeepsStops index id new.need old.tree new.tree
  pub rare : (most : ℕ) → Rare index old.tree most → Rare index new.tree most
  pub decays : KeepsDecays index id new.need old.tree new.tree
  pub page : new.page ≡ old.page
  pub bounds : new.bounds ≡ old.bounds

-- A search went past a match that it saw, and past so many behind it that come behind its page by their values, which its page counts.
pub record PassesBehind (index : Indexed) (old new : Search) : Type 0 where
  pub key : SortKey
  pub last : List ℕ
  pub edge : IsEdge old.page key last
  pub count : ℕ
  pub skips : Skips index key last count old.tree new.tree
  pub built : (query : Query.Tree) (scheme : Scheme) → Built old.tree index query scheme → Built new.tree index query scheme
  pub tree_need : new.tree.need ≡ old.tree.need
  pub need : new.need ≡ old.need
  pub page : new.page ≡ record old.page { seen = min (2 ^ 32 - 1) (old.page.seen + count) }
  pub bounds : new.bounds ≡ old.bounds

-- A search went past the document with this id, and perhaps past more that come behind its page.
abbrev pub PassesFar : Indexed → ℕ → Search → Search → Type 0
PassesFar index id old new = PassesUnseen index id old new ⊎ PassesBehind index old new

-- Its page saw the document with this id where that weighs the cutoff, and else it is as it was.
abbrev pub SeesHead : Indexed → ℕ → ℕ → Search → Search → Type 0
SeesHead index id weight old new =
    ((old.page.options.cutoff ≤ weight) × Sees index.live.documents id weight old.page new.page) ⊎ ((weight < old.page.options.cutoff) × (new.page ≡ old.page))

-- A search that goes on looked at the document at its head, with this id: its page saw it where it weighs the cutoff, and nothing else changed.
pub record LooksAt (index : Indexed) (id : ℕ) (old new : Search) : Type 0 where
  pub goes : is_done index old ≡ false
  pub first : first_id (ahead index old) ≡ Some id
  pub sees : SeesHead index id (first_weight (ahead index old)) old new
  pub rest : new ≡ record old { page = new.page }

-- A search looked at the document at its head; without one it is done, and as it was.
abbrev pub Looks : Indexed → Option ℕ → Search → Search → Type 0
Looks index None old new = (is_done index old ≡ true) × (new ≡ old)
Looks index (Some id) old new = LooksAt index id old new

-- A search moved past the document at its head alone: it saw that where it weighs the cutoff, and what is left covers what was left behind it, under the need.
pub record MovesPast (index : Indexed) (old new : Search) : Type 0 where
  pub head : ℕ
  pub first : first_id (ahead index old) ≡ Some head
  pub sees : SeesHead index head (first_weight (ahead index old)) old new
  pub over : TreePasses index head old.tree new.tree new.need

-- A search asked its tree for the need of its page, with what it saw, and for no less than before; or nothing is ahead.
abbrev pub Asks : Indexed → Search → Search → Type 0
Asks index old new = (ahead index new ≡ []) ⊎ (new.need ≡ max old.need (need_for new.page.options new.page.seen new.page.heap old.tree.top.greatest))

-- A search is on this index: it is one of some find and query there.
abbrev pub IsOn : Search → Indexed → Type 0
IsOn search index = (paging : Paging) × (query : Query.Tree) × Stands search index paging query
