-- A search over several indexes: what its trees give together, and when it is one of a find.
use Rattle.std.specs.Prelude.{◌≡◌, ◌≤◌, ◌<◌, ℕ, ◌+◌, ◌||◌, ◌&&◌, ◌⊎◌, not, nat_le, if◌then◌else◌, Bool, true, false, List, [], ◌∷◌, length, map, max, is_none, is_some, Option, None, Some}
use Rattle.std.specs.List.{AllByRecursion}
use Rattle.sk_base.specs.declared.find.Paging.{Paging}
use Rattle.sk_base.specs.declared.find.Scheme.{Scheme}
use Rattle.sk_base.specs.Numbers.{Docs}
use Rattle.sk_sorted.specs.Entries.{first_id}
use Rattle.sk_sorted.specs.Joined.{joined_id, joined, part_at, given_each, give_joined, point_in, AllRise, IsLeast}
use Rattle.sk_query.specs.Trees as Query
use Rattle.sk_query.specs.Fits.{is_sound}
use Rattle.sk_model.specs.Covers.{CoversAt}
use Rattle.sk_model.specs.Joined.{joined_ceil, joined_static, joined_stop_point, term_lists}
use Rattle.sk_model.specs.Sharp.{is_plain, flat_lists, ups}
use Rattle.sk_documents.specs.Documented.{HasTerms}
use Rattle.sk_documents.specs.Turned.{AreTurns}
use Rattle.sk_index.specs.Indexed.{Indexed}
use Rattle.sk_tree.specs.Built.{gives, left, scored, Built}
use Rattle.sk_tree.specs.Stops.{PaysToStop}
use Rattle.sk_tree.specs.declared.tree.Tree.{Tree}
use Rattle.sk_page.specs.Needs.{is_settled, need_for}
use Rattle.sk_page.specs.Views.{PageOf}
use Rattle.sk_shards.specs.declared.forest.Forest.{Forest}
use Rattle.sk_shards.specs.declared.forest.Head.{Head}

-- The documents of all indexes, under joined ids.
abbrev pub docs_of : List Indexed → Docs
docs_of indexes = joined (map (λ i. i.live.documents) indexes)

-- What the tree of each part gives.
abbrev pub gives_of : List Indexed → List Tree → List (ℕ → Option ℕ)
gives_of [] trees = []
gives_of (i ∷ indexes) [] = []
gives_of (i ∷ indexes) (t ∷ trees) = gives i t ∷ gives_of indexes trees

-- What the trees give of a document under its joined id.
abbrev pub gives_all : List Indexed → List Tree → ℕ → Option ℕ
gives_all indexes trees id = give_joined (length indexes) (gives_of indexes trees) id

-- What is left in each tree.
abbrev pub lefts : List Indexed → List Tree → List (List (ℕ × ℕ))
lefts indexes trees = given_each (gives_of indexes trees) (map (λ i. i.live.documents) indexes)

-- What a search still has to see: joined ids and weights, by rising id.
abbrev pub ahead : List Indexed → Forest → List (ℕ × ℕ)
ahead indexes forest = joined (lefts indexes forest.trees.items)

-- Each tree is that of the query over its index.
abbrev pub AreBuilt : List Indexed → List Tree → Query.Tree → Scheme → Type 0
AreBuilt [] [] query scheme = Unit {0}
AreBuilt [] (t ∷ trees) query scheme = ⊥
AreBuilt (i ∷ indexes) [] query scheme = ⊥
AreBuilt (i ∷ indexes) (t ∷ trees) query scheme = Built t i query scheme × AreBuilt indexes trees query scheme

-- A tree of a query over an index, at its first match: what is left is what the documents score one by one, and of terms alone it stops at any point.
pub record Opened (i : Indexed) (t : Tree) (query : Query.Tree) (scheme : Scheme) : Type 0 where
  pub built : Built t i query scheme
  pub left : left i t ≡ scored query scheme 1 i.live.documents
  pub need : t.need ≡ 0
  pub stops : (lists : List (List ℕ)) → flat_lists query i.live.documents ≡ Some lists → (point : ℕ) → PaysToStop i t point (ups lists point i.live.documents)

-- Such a tree for each index.
abbrev pub AreOpened : List Indexed → List Tree → Query.Tree → Scheme → Type 0
AreOpened [] [] query scheme = Unit {0}
AreOpened [] (t ∷ trees) query scheme = ⊥
AreOpened (i ∷ indexes) [] query scheme = ⊥
AreOpened (i ∷ indexes) (t ∷ trees) query scheme = Opened i t query scheme × AreOpened indexes trees query scheme

-- Each tree is that of some query over its index, and the indexes take turns.
abbrev pub AreOver : List Indexed → List Tree → Type 0
AreOver indexes trees = AreTurns (λ i. i.live.documents) indexes × (query : Query.Tree) × (scheme : Scheme) × AreBuilt indexes trees query scheme

-- Each tree, from a part on, reads no more of these lists than up to the id among all, and one entry more.
abbrev pub AllStop : ℕ → ℕ → List (List ℕ) → ℕ → List Indexed → List Tree → Type 0
AllStop n part lists id [] trees = Unit {0}
AllStop n part lists id (i ∷ indexes) [] = Unit {0}
AllStop n part lists id (i ∷ indexes) (t ∷ trees) =
    PaysToStop i t (point_in n part id) (ups lists (point_in n part id) i.live.documents) × AllStop n (part + 1) lists id indexes trees

-- No weight that is left in any tree is above it.
abbrev pub ceiling_in : List Tree → ℕ
ceiling_in [] = 0
ceiling_in (t ∷ trees) = max t.top.greatest (ceiling_in trees)

-- The first document that is left in any tree, if there is one.
abbrev pub IsFirst : List Indexed → List Tree → Option Head → Type 0
IsFirst indexes trees None = joined (lefts indexes trees) ≡ []
IsFirst indexes trees (Some head) =
    (head.part < length indexes) × (1 ≤ head.own) × IsLeast (lefts indexes trees) head.part head.own × (head.id ≡ joined_id (length indexes) head.part head.own)

-- The first that is left in the trees of the first so many parts, if there is one.
abbrev pub IsFirstOf : List Indexed → List Tree → ℕ → Option Head → Type 0
IsFirstOf indexes trees k None = (q : ℕ) → q < k → first_id (part_at (lefts indexes trees) q) ≡ None
IsFirstOf indexes trees k (Some head) =
    (head.part < k) × (1 ≤ head.own) × (first_id (part_at (lefts indexes trees) head.part) ≡ Some head.own) × (head.id ≡ joined_id (length indexes) head.part head.own)
    × ((q other : ℕ) → q < k → first_id (part_at (lefts indexes trees) q) ≡ Some other → head.id ≤ joined_id (length indexes) q other)

-- The trees of these finds are sought under no need: those of a term, or of an or of terms, by relevance and without collapsing.
abbrev pub reads_on : Query.Tree → Paging → Bool
reads_on query paging = is_plain paging && is_some (term_lists query)

-- A query that is one term.
abbrev pub is_term : Query.Tree → Bool
is_term (Query.term t) = true
is_term _ = false

-- A search is done where nothing is ahead, or what is ahead cannot change its page.
abbrev pub is_done : List Indexed → Forest → Bool
is_done indexes forest = is_none (first_id (ahead indexes forest)) || is_settled forest.page.options forest.page.seen forest.page.heap (ceiling_in forest.trees.items)

-- A search is one of this find and query over these indexes: each tree is the query's, its bounds are what the parts tell, and its page is that of a search that is given what the trees give together.
pub record Stands (forest : Forest) (indexes : List Indexed) (paging : Paging) (query : Query.Tree) : Type 0 where
  pub built : AreBuilt indexes forest.trees.items query paging.options.scheme
  pub sound : is_sound 1 query ≡ true
  pub rise : AllRise (map (λ i. i.live.documents) indexes)
  pub some : 0 < length indexes
  pub terms : AllByRecursion HasTerms (docs_of indexes)
  pub bounds : forest.bounds ≡ record {
    greatest = joined_ceil (length indexes) query paging.options.scheme (docs_of indexes);
    most = joined_static (length indexes) query (docs_of indexes);
  }
  pub pruned : forest.is_pruned ≡ not (reads_on query paging)
  pub unasked : forest.is_pruned ≡ false → forest.need ≡ 0
  pub asked : AllByRecursion (λ t. t.need ≤ forest.need) forest.trees.items
  pub low : joined_ceil (length indexes) query paging.options.scheme (docs_of indexes) < paging.options.cutoff → forest.need ≤ paging.options.cutoff
  pub page : PageOf forest.page query paging (docs_of indexes) (joined_ceil (length indexes) query paging.options.scheme (docs_of indexes)) (gives_all indexes forest.trees.items) forest.need
  pub stops : is_plain paging ≡ true → (lists : List (List ℕ)) → term_lists query ≡ Some lists
      → AllStop (length indexes) 0 lists (joined_stop_point (length indexes) query paging (docs_of indexes)) indexes forest.trees.items

-- The readings of all trees.
abbrev pub spent_in : List Tree → ℕ
spent_in [] = 0
spent_in (t ∷ trees) = t.spent + spent_in trees

-- The readings of a search so far: in lists, and of keys and values.
abbrev pub spent_by : Forest → ℕ
spent_by forest = spent_in forest.trees.items + forest.page.read

-- A search is over these indexes: it is one of some find and query there.
abbrev pub IsOver : Forest → List Indexed → Type 0
IsOver forest indexes = (paging : Paging) × (query : Query.Tree) × Stands forest indexes paging query

-- ---- a step of a search

-- A search went past the document at a head, and saw nothing: of each live one behind it what is left covers what was, under the need, and of the others nothing is left. No tree moved but that of the head's part.
pub record PassesUnseen (indexes : List Indexed) (head : Head) (old new : Forest) : Type 0 where
  pub over : AllByRecursion (λ one. CoversAt (if nat_le (head.id + 1) one.0 then gives_all indexes old.trees.items one.0 else None) (gives_all indexes new.trees.items one.0) new.need) (docs_of indexes)
  pub built : (query : Query.Tree) (scheme : Scheme) → AreBuilt indexes old.trees.items query scheme → AreBuilt indexes new.trees.items query scheme
  pub asked : (new.need ≡ old.need) ⊎ (new.need ≡ max old.need (need_for old.page.options old.page.seen old.page.heap (ceiling_in old.trees.items)))
  pub unasked : old.is_pruned ≡ false → new.need ≡ old.need
  pub within : AllByRecursion (λ t. t.need ≤ old.need) old.trees.items → AllByRecursion (λ t. t.need ≤ new.need) new.trees.items
  pub stops : (lists : List (List ℕ)) (id : ℕ) → new.need ≡ 0 → head.id ≤ id → AllStop (length indexes) 0 lists id indexes old.trees.items → AllStop (length indexes) 0 lists id indexes new.trees.items
  pub pruned : new.is_pruned ≡ old.is_pruned
  pub page : new.page ≡ old.page
  pub bounds : new.bounds ≡ old.bounds
