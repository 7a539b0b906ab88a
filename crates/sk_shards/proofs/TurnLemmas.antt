-- A search that moves past a document.
use Rattle.std.proofs.Common.{◌∙◌, ◌≡◌, ◌≤◌, ◌<◌, ◌+◌, ◌^◌, ◌&&◌, ◌||◌, not, ℕ, Bool, true, false, cond, nat_le, nat_lt, List, [], ◌∷◌, length, map, slice_index_or, Option, None, Some, is_some, is_none, unwrap_or, refl, sym, ap, subst, arith, true≢false}
use Rattle.std.specs.List.{AllByRecursion}
use Rattle.std.proofs.lemmas.Bool.{ltb-false}
use Rattle.sk_base.specs.declared.find.Options.{Options}
use Rattle.sk_base.specs.declared.find.Paging.{Paging}
use Rattle.sk_base.specs.declared.find.Scheme.{Scheme}
use Rattle.sk_base.specs.declared.rank.Rank.{Rank}
use Rattle.sk_base.specs.Numbers.{Docs}
use Rattle.sk_sorted.specs.Entries.{AreSorted, first_id}
use Rattle.sk_sorted.proofs.JoinedLaws.{rise-joined}
use Rattle.sk_query.specs.Trees as Query
use Rattle.sk_model.specs.Bounds.{ceil, greatest_in}
use Rattle.sk_model.specs.Counts.{wanted_by}
use Rattle.sk_model.specs.Covers.{CoversAt}
use Rattle.sk_model.specs.Documents.{Document}
use Rattle.sk_model.specs.Joined.{joined_ceil, joined_stop_point, term_lists}
use Rattle.sk_model.specs.Sharp.{is_plain}
use Rattle.sk_documents.specs.Turned.{AreTurns}
use Rattle.sk_heap.specs.Held.{need_of}
use Rattle.sk_index.specs.Indexed.{Indexed}
use Rattle.sk_tree.specs.Built as Nodes
use Rattle.sk_tree.specs.Built.{left, IsTree}
use Rattle.sk_tree.specs.declared.tree.Tree.{Tree}
use Rattle.sk_page.specs.Needs.{is_above, is_settled}
use Rattle.sk_page.specs.Views.{PageOf, MaySee, Sees}
use Rattle.sk_page.specs.declared.page.Page.{Page}
use Rattle.sk_page.proofs.WalkLaws.{weighed, first_weight}
use Rattle.sk_page.proofs.SeeLaws.{may_see, Looked, passed_by, looked_at, gone_on, head_early}
use Rattle.sk_shards.specs.Forests.{AreBuilt, AreOver, IsFirst, Stands, PassesUnseen, ahead, docs_of, gives_all, ceiling_in, is_done, reads_on}
use Rattle.sk_shards.specs.declared.forest.Forest.{Forest}
use Rattle.sk_shards.specs.declared.forest.Head.{Head}
use Rattle.sk_shards.proofs.ForestLemmas.{built_long, ahead_is}
use Rattle.sk_shards.proofs.FirstLemmas.{left_at, head_first, head_weight}
use Rattle.sk_page.proofs.FewerLaws.{fewer_left}
use Rattle.sk_shards.proofs.OpenLemmas.{greatest_is}

abbrev docs_in : Indexed → Docs
docs_in i = i.live.documents

-- no tree weighs more than its part can
built_ceiling : (indexes : List Indexed) (trees : List Tree) (query : Query.Tree) (scheme : Scheme) → AreBuilt indexes trees query scheme → ceiling_in trees ≤ greatest_in (map (λ (i : Indexed). ceil query scheme 1 i.live.documents) indexes)
built_ceiling [] [] query scheme built = omega arith
built_ceiling [] (t ∷ trees) query scheme built = absurd built
built_ceiling (i ∷ indexes) [] query scheme built = absurd built
built_ceiling (i ∷ indexes) (t ∷ trees) query scheme built =
    let own = built.0.ceiling in
    let rest = built_ceiling indexes trees query scheme built.1 in
    omega (arith, own, rest)

-- it fits
pub ceiling_light : (indexes : List Indexed) (trees : List Tree) (query : Query.Tree) (scheme : Scheme) → AreBuilt indexes trees query scheme → ceiling_in trees < 2 ^ 127
ceiling_light [] [] query scheme built = omega arith
ceiling_light [] (t ∷ trees) query scheme built = absurd built
ceiling_light (i ∷ indexes) [] query scheme built = absurd built
ceiling_light (i ∷ indexes) (t ∷ trees) query scheme built =
    let own = built.0.tree.fits in
    let rest = ceiling_light indexes trees query scheme built.1 in
    omega (arith, own, rest)

pub high_of : (page : Page) (ceiling : ℕ) → is_settled page.options page.seen page.heap ceiling ≡ false → page.options.cutoff ≤ ceiling
high_of page ceiling e = step (nat_lt ceiling page.options.cutoff) refl e
  where
    step : (b : Bool) → nat_lt ceiling page.options.cutoff ≡ b → (b || (nat_le (wanted_by page.options) page.seen && is_above (need_of page.heap) ceiling)) ≡ false → page.options.cutoff ≤ ceiling
    step true f e = absurd (true≢false e)
    step false f e = ltb-false ceiling page.options.cutoff f

-- the trees of terms alone are sought under no need
reads_terms : (query : Query.Tree) (paging : Paging) (lists : List (List ℕ)) → is_plain paging ≡ true → term_lists query ≡ Some lists → not (reads_on query paging) ≡ false
reads_terms query paging lists plain terms = (λ j. not (plain j && is_some (terms j)))

pub ceiling_low_of : (indexes : List Indexed) (f : Forest) (paging : Paging) (query : Query.Tree) → AreTurns docs_in indexes → Stands f indexes paging query → ceiling_in f.trees.items ≤ joined_ceil (length indexes) query paging.options.scheme (docs_of indexes)
ceiling_low_of indexes f paging query turns stands = subst (λ g. ceiling_in f.trees.items ≤ g) (greatest_is indexes query paging.options.scheme turns.rise) (built_ceiling indexes f.trees.items query paging.options.scheme stands.built)

-- what is told of a slice of the trees is so of them
pub most_there : (indexes : List Indexed) (slice trees : List Tree) (query : Query.Tree) (scheme : Scheme) (ceiling : ℕ) → slice ≡ trees → ceiling ≡ ceiling_in slice
    → ((is : List Indexed) (q : Query.Tree) (s : Scheme) → AreBuilt is slice q s → (id : ℕ) → unwrap_or (gives_all is slice id) 0 ≤ ceiling) → AreBuilt indexes trees query scheme → (id : ℕ) → unwrap_or (gives_all indexes trees id) 0 ≤ ceiling_in trees
most_there indexes slice trees query scheme ceiling same is bound built id =
    let le = bound indexes query scheme (subst (λ (ts : List Tree). AreBuilt indexes ts query scheme) (sym same) built) id in
    let gives : unwrap_or (gives_all indexes slice id) 0 ≡ unwrap_or (gives_all indexes trees id) 0 = ap (λ (ts : List Tree). unwrap_or (gives_all indexes ts id) 0) same in
    let most : ceiling_in slice ≡ ceiling_in trees = ap ceiling_in same in
    omega (arith, le, gives, most, is)

pub first_there : (indexes : List Indexed) (slice trees : List Tree) (first : Option Head) (query : Query.Tree) (scheme : Scheme) → slice ≡ trees → AreTurns docs_in indexes → AreBuilt indexes trees query scheme
    → ((is : List Indexed) → AreOver is slice → IsFirst is slice first) → IsFirst indexes trees first
first_there indexes slice trees first query scheme same turns built tells =
    subst (λ (ts : List Tree). IsFirst indexes ts first) same (tells indexes (turns, query, scheme, subst (λ (ts : List Tree). AreBuilt indexes ts query scheme) (sym same) built))

-- ---- the head

first_same : (ps : List (ℕ × ℕ)) → Nodes.first_weight ps ≡ first_weight ps
first_same [] = refl
first_same (p ∷ ps) = refl

or_true : (b : Bool) → false ≡ not (b || true)
or_true true = refl
or_true false = refl

module _ (indexes : List Indexed) (old : Forest) (query : Query.Tree) (scheme : Scheme) (turns : AreTurns docs_in indexes) (built : AreBuilt indexes old.trees.items query scheme) where
  long : length old.trees.items ≡ length indexes
  long = built_long indexes old.trees.items query scheme built

  -- what is left is what the page is given
  pub left_all : ahead indexes old ≡ weighed (gives_all indexes old.trees.items) (docs_of indexes)
  left_all = ahead_is indexes old.trees.items long turns.rise

  -- whether anything is left
  pub ended_is : (first : Option Head) → IsFirst indexes old.trees.items first → is_none first ≡ is_none (first_id (ahead indexes old))
  ended_is None none = sym (ap (λ (ps : List (ℕ × ℕ)). is_none (first_id ps)) none)
  ended_is (Some head) first = sym (ap is_none (head_first indexes old.trees.items head long turns.rise first))

  -- where nothing is left it is done, and where the page is settled
  pub done_at_end : IsFirst indexes old.trees.items None → false ≡ not (is_done indexes old)
  done_at_end none = sym (ap (λ (ps : List (ℕ × ℕ)). not (is_none (first_id ps) || is_settled old.page.options old.page.seen old.page.heap (ceiling_in old.trees.items))) none)

  pub done_settled : is_settled old.page.options old.page.seen old.page.heap (ceiling_in old.trees.items) ≡ true → false ≡ not (is_done indexes old)
  done_settled e = or_true (is_none (first_id (ahead indexes old))) ∙ ap (λ b. not (is_none (first_id (ahead indexes old)) || b)) (sym e)

  module _ (head : Head) (first : IsFirst indexes old.trees.items (Some head)) where
    pub within_trees : head.part < length old.trees.items
    within_trees = let l = first.0 in let same = long in omega (arith, l, same)

    pub goes_on : is_settled old.page.options old.page.seen old.page.heap (ceiling_in old.trees.items) ≡ false → true ≡ not (is_done indexes old)
    goes_on e = sym (λ j. not (is_none (head_first indexes old.trees.items head long turns.rise first j) || e j))

    pub head_there : first_id (weighed (gives_all indexes old.trees.items) (docs_of indexes)) ≡ Some head.id
    head_there = ap first_id (sym left_all) ∙ head_first indexes old.trees.items head long turns.rise first

    pub weight_there : (t : Tree) (w : ℕ) → t ≡ slice_index_or old.trees.items head.part t → ((i : Indexed) → IsTree i t → w ≡ Nodes.first_weight (left i t)) → w ≡ first_weight (weighed (gives_all indexes old.trees.items) (docs_of indexes))
    weight_there t w is tells =
        let at = left_at indexes old.trees.items query scheme head.part t built within_trees is in
        tells at.0 at.1.tree
        ∙ head_weight indexes old.trees.items head at.0 t long turns.rise first at.2
        ∙ first_same (ahead indexes old)
        ∙ ap first_weight left_all

    -- past it fewer are left
    pub turned_fewer : (mid new : Forest) → mid.trees.items ≡ old.trees.items → PassesUnseen indexes head mid new → length (ahead indexes new) < length (ahead indexes old)
    turned_fewer mid new same passes =
        let built2 : AreBuilt indexes new.trees.items query scheme = passes.built query scheme (subst (λ (ts : List Tree). AreBuilt indexes ts query scheme) (sym same) built) in
        let later : length (ahead indexes new) ≡ length (weighed (gives_all indexes new.trees.items) (docs_of indexes)) = ap length (ahead_is indexes new.trees.items (built_long indexes new.trees.items query scheme built2) turns.rise) in
        let now : length (ahead indexes old) ≡ length (weighed (gives_all indexes old.trees.items) (docs_of indexes)) = ap length left_all in
        let fewer = fewer_left (gives_all indexes old.trees.items) (gives_all indexes new.trees.items) new.need head.id (docs_of indexes) head_there
        (subst (λ (ts : List Tree). AllByRecursion (λ (one : ℕ × Document). CoversAt (cond (nat_le (head.id + 1) one.0) (gives_all indexes ts one.0) None) (gives_all indexes new.trees.items one.0) new.need) (docs_of indexes)) same passes.over) in
        omega (arith, later, now, fewer)

module _ (indexes : List Indexed) (old : Forest) (paging : Paging) (query : Query.Tree) (turns : AreTurns docs_in indexes) (stands : Stands old indexes paging query) (hd : Head) (w : ℕ)
    (head : first_id (weighed (gives_all indexes old.trees.items) (docs_of indexes)) ≡ Some hd.id) (weight : w ≡ first_weight (weighed (gives_all indexes old.trees.items) (docs_of indexes))) where
  abbrev docs : Docs
  docs = docs_of indexes

  abbrev give : ℕ → Option ℕ
  give = gives_all indexes old.trees.items

  abbrev greatest : ℕ
  greatest = joined_ceil (length indexes) query paging.options.scheme docs

  abbrev ceiling : ℕ
  ceiling = ceiling_in old.trees.items

  abbrev sorted : AreSorted docs
  sorted = record { rise = rise-joined (map docs_in indexes); small = turns.small }

  ceiling_low : ceiling ≤ greatest
  ceiling_low = ceiling_low_of indexes old paging query turns stands

  -- it may see the document there
  pub fits_head : ((id : ℕ) → unwrap_or (give id) 0 ≤ ceiling) → ceiling < 2 ^ 127 → MaySee old.page hd.id w
  fits_head most small = may_see query paging docs greatest give old.need old.page stands.page sorted hd.id w head weight ceiling most small

  -- a search that goes on is at no document behind the stop point
  pub early_head : is_settled old.page.options old.page.seen old.page.heap ceiling ≡ false → is_plain paging ≡ true → hd.id ≤ joined_stop_point (length indexes) query paging docs
  early_head goes plain = head_early query paging docs greatest give old.need old.page stands.page sorted hd.id w head weight ceiling ceiling_low goes plain

  abbrev LookedOn : Page → List Rank → Type 0
  LookedOn mid saw2 = Looked query paging docs greatest give old.need old.page stands.page sorted hd.id w head weight mid saw2

  module _ (goes : is_settled old.page.options old.page.seen old.page.heap ceiling ≡ false) (new : Forest) where
    cut_same : old.page.options.cutoff ≡ paging.options.cutoff
    cut_same = ap (λ (o : Options). o.cutoff) stands.page.options

    moved : (mid : Page) (saw2 : List Rank) → LookedOn mid saw2 → PassesUnseen indexes hd (record old { page = mid }) new → Stands new indexes paging query
    moved mid saw2 looked passes = record {
      built = passes.built query paging.options.scheme stands.built;
      sound = stands.sound;
      rise = stands.rise;
      some = stands.some;
      terms = stands.terms;
      bounds = passes.bounds ∙ stands.bounds;
      pruned = passes.pruned ∙ stands.pruned;
      unasked = λ e. unasked (sym passes.pruned ∙ e);
      asked = passes.within stands.asked;
      low = λ low. let high = high_of old.page ceiling goes in let same = cut_same in let le = ceiling_low in absurd (omega (arith, low, high, same, le));
      page = subst (λ p. PageOf p query paging docs greatest (gives_all indexes new.trees.items) new.need) (sym passes.page)
          (gone_on query paging docs greatest give old.need old.page stands.page sorted hd.id w head weight mid saw2 looked ceiling new.need (gives_all indexes new.trees.items) passes.asked passes.over);
      stops = λ plain lists terms.
          passes.stops lists (joined_stop_point (length indexes) query paging docs) (unasked (stands.pruned ∙ reads_terms query paging lists plain terms)) (early_head goes plain) (stands.stops plain lists terms);
    }
      where
        unasked : old.is_pruned ≡ false → new.need ≡ 0
        unasked e = passes.unasked e ∙ stands.unasked e

    pub turned_seen : (mid : Page) → old.page.options.cutoff ≤ w → Sees docs hd.id w old.page mid → PassesUnseen indexes hd (record old { page = mid }) new → Stands new indexes paging query
    turned_seen mid enough sees passes =
        let looked = looked_at query paging docs greatest give old.need old.page stands.page sorted hd.id w head weight mid (let same = cut_same in omega (arith, enough, same)) sees in
        moved mid looked.0 looked.1 passes

    pub turned_light : w < old.page.options.cutoff → PassesUnseen indexes hd old new → Stands new indexes paging query
    turned_light light passes =
        moved old.page stands.page.saw (passed_by query paging docs greatest give old.need old.page stands.page sorted hd.id w head weight (let same = cut_same in omega (arith, light, same))) passes
