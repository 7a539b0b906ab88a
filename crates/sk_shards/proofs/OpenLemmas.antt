-- The trees of several indexes at their first matches: what they give together, and that a search stands at them.
use Rattle.std.proofs.Common.{◌∙◌, ◌≡◌, ◌≤◌, ◌<◌, ◌+◌, ◌++◌, ◌&&◌, not, true, nat_le, ℕ, zero, suc, List, [], ◌∷◌, length, map, sum_by, Option, Some, take, slice_index_or, refl, sym, ap, subst, arith}
use Rattle.std.specs.List.{AllByRecursion}
use Rattle.std.proofs.lemmas.Bool.{and_parts}
use Rattle.std.proofs.lemmas.List.{length-map, take_more}
use Rattle.std.proofs.lemmas.List.Sums.{sum_by-cons}
use Rattle.sk_base.specs.declared.find.Paging.{Paging}
use Rattle.sk_base.specs.declared.find.Scheme.{Scheme}
use Rattle.sk_base.specs.Numbers.{Docs}
use Rattle.sk_sorted.specs.Entries.{RiseAbove}
use Rattle.sk_sorted.specs.Joined.{joined_id, under, put_all, joined_from, parts_in, part_at, AllRise, own_id, give_at, give_joined, point_in}
use Rattle.sk_sorted.proofs.EntryLaws.{AllByRecursion-put}
use Rattle.sk_sorted.proofs.JoinedIdLaws.{own-joined, part-joined}
use Rattle.sk_sorted.proofs.JoinedLaws.{rise-joined}
use Rattle.sk_sorted.proofs.PartsLaws.{parts_in-joined}
use Rattle.sk_query.specs.declared.form.Form.{Form}
use Rattle.sk_query.specs.Trees as Query
use Rattle.sk_query.specs.Fits.{is_sound, leaves_of, depth_of, fits_tree}
use Rattle.sk_model.specs.Bounds.{ceil, static_count, greatest_in}
use Rattle.sk_model.specs.Documents.{Document}
use Rattle.sk_model.specs.Scores.{score}
use Rattle.sk_model.specs.Joined.{joined_ceil, joined_static, joined_stop_point, term_lists}
use Rattle.sk_model.specs.Sharp.{flat_lists}
use Rattle.sk_documents.specs.Documented.{HasTerms}
use Rattle.sk_documents.specs.Turned.{AreTurns}
use Rattle.sk_index.specs.Indexed.{Indexed}
use Rattle.sk_tree.specs.Built.{gives, left}
use Rattle.sk_tree.specs.declared.tree.Tree.{Tree}
use Rattle.sk_page.specs.Views.{OpensPage, PageOf}
use Rattle.sk_page.proofs.FewerLaws.{same_given}
use Rattle.sk_page.proofs.SeeLaws.{page_opened}
use Rattle.sk_shards.specs.Forests.{AreBuilt, Opened, AreOpened, AllStop, Stands, docs_of, gives_of, gives_all, spent_in, reads_on}
use Rattle.sk_shards.specs.declared.forest.Forest.{Forest}

abbrev docs_in : Indexed → Docs
docs_in i = i.live.documents

-- ---- one tree more

opened_more : (indexes : List Indexed) (trees : List Tree) (query : Query.Tree) (scheme : Scheme) (i : Indexed) (t : Tree) → AreOpened indexes trees query scheme → Opened i t query scheme → AreOpened (indexes ++ i ∷ []) (trees ++ t ∷ []) query scheme
opened_more [] [] query scheme i t are one = (one, tt)
opened_more [] (u ∷ trees) query scheme i t are one = absurd are
opened_more (j ∷ indexes) [] query scheme i t are one = absurd are
opened_more (j ∷ indexes) (u ∷ trees) query scheme i t are one = (are.0, opened_more indexes trees query scheme i t are.1 one)

-- as a loop over the indexes has it
pub opened_next : (indexes : List Indexed) (k : ℕ) (trees next : List Tree) (query : Query.Tree) (scheme : Scheme) (i : Indexed) (t : Tree) → k < length indexes → i ≡ slice_index_or indexes k i → next ≡ trees ++ t ∷ []
    → AreOpened (take k indexes) trees query scheme → Opened i t query scheme → AreOpened (take (k + 1) indexes) next query scheme
opened_next indexes k trees next query scheme i t l at is are one =
    subst (λ ts. AreOpened (take (k + 1) indexes) ts query scheme) (sym is)
    (subst (λ (js : List Indexed). AreOpened js (trees ++ t ∷ []) query scheme) (sym (take_more indexes k i l ∙ ap (λ (j : Indexed). take k indexes ++ j ∷ []) (sym at)))
    (opened_more (take k indexes) trees query scheme i t are one))

spent_more : (trees : List Tree) (t : Tree) → spent_in (trees ++ t ∷ []) ≡ spent_in trees + t.spent
spent_more [] t = omega arith
spent_more (u ∷ trees) t = let rest = spent_more trees t in omega (arith, rest)

pub spent_next : (trees next : List Tree) (t : Tree) → next ≡ trees ++ t ∷ [] → spent_in next ≡ spent_in trees + t.spent
spent_next trees next t is = ap spent_in is ∙ spent_more trees t

pub opened_built : (indexes : List Indexed) (trees : List Tree) (query : Query.Tree) (scheme : Scheme) → AreOpened indexes trees query scheme → AreBuilt indexes trees query scheme
opened_built [] [] query scheme are = tt
opened_built [] (t ∷ trees) query scheme are = absurd are
opened_built (i ∷ indexes) [] query scheme are = absurd are
opened_built (i ∷ indexes) (t ∷ trees) query scheme are = (are.0.built, opened_built indexes trees query scheme are.1)

pub opened_needs : (indexes : List Indexed) (trees : List Tree) (query : Query.Tree) (scheme : Scheme) → AreOpened indexes trees query scheme → AllByRecursion (λ (t : Tree). t.need ≤ 0) trees
opened_needs [] [] query scheme are = tt
opened_needs [] (t ∷ trees) query scheme are = absurd are
opened_needs (i ∷ indexes) [] query scheme are = absurd are
opened_needs (i ∷ indexes) (t ∷ trees) query scheme are = (let none = are.0.need in omega (arith, none), opened_needs indexes trees query scheme are.1)

-- ---- where they stop

-- the lists of a term, or of an or of terms, are those of a flat query, whatever documents there are
pub flat_of_terms : (query : Query.Tree) (docs : Docs) (lists : List (List ℕ)) → term_lists query ≡ Some lists → flat_lists query docs ≡ Some lists
flat_of_terms Query.nothing docs lists e = cc
flat_of_terms Query.all docs lists e = cc
flat_of_terms (Query.term t) docs lists e = e
flat_of_terms (Query.wildcard prefix) docs lists e = cc
flat_of_terms (Query.parts Form.And ts) docs lists e = cc
flat_of_terms (Query.parts Form.Or ts) docs lists e = e
flat_of_terms (Query.parts Form.Xor ts) docs lists e = cc
flat_of_terms (Query.parts Form.Max ts) docs lists e = cc
flat_of_terms (Query.parts Form.AndNot ts) docs lists e = cc
flat_of_terms (Query.parts Form.AndMaybe ts) docs lists e = cc
flat_of_terms (Query.parts Form.Filter ts) docs lists e = cc
flat_of_terms (Query.near window ts) docs lists e = cc
flat_of_terms (Query.phrase window ts) docs lists e = cc
flat_of_terms (Query.synonym ts) docs lists e = cc
flat_of_terms (Query.scale factor part) docs lists e = cc
flat_of_terms (Query.range slot low high) docs lists e = cc

pub opened_stops : (n part id : ℕ) (lists : List (List ℕ)) (indexes : List Indexed) (trees : List Tree) (query : Query.Tree) (scheme : Scheme) → AreOpened indexes trees query scheme → term_lists query ≡ Some lists → AllStop n part lists id indexes trees
opened_stops n part id lists [] trees query scheme are e = tt
opened_stops n part id lists (i ∷ indexes) [] query scheme are e = absurd are
opened_stops n part id lists (i ∷ indexes) (t ∷ trees) query scheme are e =
    (are.0.stops lists (flat_of_terms query i.live.documents lists e) (point_in n part id), opened_stops n (part + 1) id lists indexes trees query scheme are.1 e)

-- ---- what they give

-- what holds of each entry of each part, under its joined id, holds of all
module _ {X : Type 0} (P : ℕ × X → Type 0) (n : ℕ) where
  all_put : (part : ℕ) (es fs : List (ℕ × X)) → AllByRecursion (λ (e : ℕ × X). P (joined_id n part e.0, e.1)) es → AllByRecursion P fs → AllByRecursion P (put_all (under n part es) fs)
  all_put part [] fs here there = there
  all_put part (e ∷ es) fs here there = AllByRecursion-put P (joined_id n part e.0) e.1 (put_all (under n part es) fs) here.0 (all_put part es fs here.1 there)

  all_joined_from : (part : ℕ) (parts : List (List (ℕ × X))) → ((q : ℕ) → q < length parts → AllByRecursion (λ (e : ℕ × X). P (joined_id n (part + q) e.0, e.1)) (part_at parts q)) → AllByRecursion P (joined_from n part parts)
  all_joined_from part [] each = tt
  all_joined_from part (es ∷ parts) each =
      all_put part es (joined_from n (part + 1) parts)
      (subst (λ p. AllByRecursion (λ (e : ℕ × X). P (joined_id n p e.0, e.1)) es) (omega arith) (each 0 (omega arith)))
      (all_joined_from (part + 1) parts
      (λ q l. subst (λ p. AllByRecursion (λ (e : ℕ × X). P (joined_id n p e.0, e.1)) (part_at parts q)) (omega arith) (each (suc q) (omega (arith, l)))))

module _ (query : Query.Tree) (scheme : Scheme) where
  -- a tree gives what the documents of its part score
  gives_at : (indexes : List Indexed) (trees : List Tree) (q : ℕ) → AreOpened indexes trees query scheme → AllRise (map docs_in indexes)
      → AllByRecursion (λ (one : ℕ × Document). give_at (gives_of indexes trees) q one.0 ≡ score query scheme 1 one.1) (part_at (map docs_in indexes) q)
  gives_at [] trees q are up = tt
  gives_at (i ∷ indexes) [] q are up = absurd are
  gives_at (i ∷ indexes) (t ∷ trees) zero are up = same_given (λ one. gives i t one.0) (λ one. score query scheme 1 one.1) 0 i.live.documents up.0 are.0.left
  gives_at (i ∷ indexes) (t ∷ trees) (suc q) are up = gives_at indexes trees q are.1 up.1

  -- under joined ids
  under_joined : (n q low : ℕ) (gs : List (ℕ → Option ℕ)) (docs : Docs) → q < n → RiseAbove low docs → AllByRecursion (λ (one : ℕ × Document). give_at gs q one.0 ≡ score query scheme 1 one.1) docs
      → AllByRecursion (λ (one : ℕ × Document). give_joined n gs (joined_id n q one.0) ≡ score query scheme 1 one.1) docs
  under_joined n q low gs [] l up same = tt
  under_joined n q low gs (one ∷ docs) l up same = (
    ap (λ p. give_at gs p (own_at one.0)) (part-joined n q one.0 l)
        ∙ ap (give_at gs q) (own-joined n q one.0 l (let above = up.0 in omega (arith, above)))
        ∙ same.0,
    under_joined n q one.0 gs docs l up.1 same.1,
  )
    where
      own_at : ℕ → ℕ
      own_at own = own_id n (joined_id n q own)

  rise_at : (parts : List Docs) (q : ℕ) → AllRise parts → RiseAbove 0 (part_at parts q)
  rise_at [] q up = tt
  rise_at (docs ∷ parts) zero up = up.0
  rise_at (docs ∷ parts) (suc q) up = rise_at parts q up.1

  -- together they give what the documents of all score
  pub gives_scores : (indexes : List Indexed) (trees : List Tree) → length (map docs_in indexes) ≡ length indexes → AreOpened indexes trees query scheme → AllRise (map docs_in indexes)
      → AllByRecursion (λ (one : ℕ × Document). gives_all indexes trees one.0 ≡ score query scheme 1 one.1) (docs_of indexes)
  gives_scores indexes trees long are up =
      subst (λ n. AllByRecursion (λ (one : ℕ × Document). give_joined n (gives_of indexes trees) one.0 ≡ score query scheme 1 one.1) (docs_of indexes)) long
      (all_joined_from (λ (one : ℕ × Document). give_joined n (gives_of indexes trees) one.0 ≡ score query scheme 1 one.1) n 0 (map docs_in indexes)
      (λ q l. subst (λ p. AllByRecursion (λ (one : ℕ × Document). give_joined n (gives_of indexes trees) (joined_id n p one.0) ≡ score query scheme 1 one.1) (part_at (map docs_in indexes) q)) (omega arith)
      (under_joined n q 0 (gives_of indexes trees) (part_at (map docs_in indexes) q) l (rise_at (map docs_in indexes) q up) (gives_at indexes trees q are up))))
    where
      n : ℕ
      n = length (map docs_in indexes)

-- ---- a search stands at them

map_docs : {Y : Type 0} (f : Docs → Y) (indexes : List Indexed) → map f (map docs_in indexes) ≡ map (λ (i : Indexed). f i.live.documents) indexes
map_docs f [] = refl
map_docs f (i ∷ indexes) = ap (λ ys. f i.live.documents ∷ ys) (map_docs f indexes)

sum_docs : (f : Docs → ℕ) (indexes : List Indexed) → sum_by f (map docs_in indexes) ≡ sum_by (λ (i : Indexed). f i.live.documents) indexes
sum_docs f [] = refl
sum_docs f (i ∷ indexes) =
    let a = sum_by-cons f i.live.documents (map docs_in indexes) in
    let b = sum_by-cons (λ (j : Indexed). f j.live.documents) i indexes in
    let rest = sum_docs f indexes in
    omega (arith, a, b, rest)

-- the parts of all are the documents of the indexes
pub parts_are : (indexes : List Indexed) → AllRise (map docs_in indexes) → parts_in (length indexes) (docs_of indexes) ≡ map docs_in indexes
parts_are indexes up = ap (λ n. parts_in n (docs_of indexes)) (sym (length-map indexes docs_in)) ∙ parts_in-joined (map docs_in indexes) up

pub greatest_is : (indexes : List Indexed) (query : Query.Tree) (scheme : Scheme) → AllRise (map docs_in indexes) → greatest_in (map (λ (i : Indexed). ceil query scheme 1 i.live.documents) indexes) ≡ joined_ceil (length indexes) query scheme (docs_of indexes)
greatest_is indexes query scheme up = sym (ap (λ parts. greatest_in (map (λ (docs : Docs). ceil query scheme 1 docs) parts)) (parts_are indexes up) ∙ ap greatest_in (map_docs (λ docs. ceil query scheme 1 docs) indexes))

pub most_is : (indexes : List Indexed) (query : Query.Tree) → AllRise (map docs_in indexes) → sum_by (λ (i : Indexed). static_count query i.live.documents) indexes ≡ joined_static (length indexes) query (docs_of indexes)
most_is indexes query up = sym (ap (sum_by (λ (docs : Docs). static_count query docs)) (parts_are indexes up) ∙ sum_docs (λ docs. static_count query docs) indexes)

pub opened : (indexes : List Indexed) (f : Forest) (paging : Paging) (query : Query.Tree) → AreTurns docs_in indexes → AllByRecursion HasTerms (docs_of indexes) → fits_tree query ≡ true
    → AreOpened indexes f.trees.items query paging.options.scheme
    → f.need ≡ 0 → OpensPage paging f.page → f.is_pruned ≡ not (reads_on query paging)
    → f.bounds ≡ record {
      greatest = greatest_in (map (λ (i : Indexed). ceil query paging.options.scheme 1 i.live.documents) indexes);
      most = sum_by (λ (i : Indexed). static_count query i.live.documents) indexes;
    }
    → Stands f indexes paging query
opened indexes f paging query turns terms fits are none opens pruned bounds =
    let docs = docs_of indexes in
    let n = length indexes in
    let greatest = joined_ceil n query paging.options.scheme docs in
    let page : PageOf f.page query paging docs greatest (gives_all indexes f.trees.items) 0 =
    page_opened query paging docs greatest (gives_all indexes f.trees.items) (rise-joined (map docs_in indexes))
    (gives_scores query paging.options.scheme indexes f.trees.items (length-map indexes docs_in) are turns.rise) f.page opens in
    record {
      built = opened_built indexes f.trees.items query paging.options.scheme are;
      sound = (and_parts (is_sound 1 query) (nat_le (leaves_of query) 1024) (and_parts (is_sound 1 query && nat_le (leaves_of query) 1024) (nat_le (depth_of query) 1000) fits).0).0;
      rise = turns.rise;
      some = let one = turns.some in omega (arith, one);
      terms = terms;
      bounds = bounds ∙ (λ j. record { greatest = greatest_is indexes query paging.options.scheme turns.rise j; most = most_is indexes query turns.rise j });
      pruned = pruned;
      unasked = λ e. none;
      asked = subst (λ need. AllByRecursion (λ (t : Tree). t.need ≤ need) f.trees.items) (sym none) (opened_needs indexes f.trees.items query paging.options.scheme are);
      low = λ l. omega (arith, none);
      page = subst (λ need. PageOf f.page query paging docs greatest (gives_all indexes f.trees.items) need) (sym none) page;
      stops = λ plain lists e. opened_stops n 0 (joined_stop_point n query paging docs) lists indexes f.trees.items query paging.options.scheme are e;
    }
