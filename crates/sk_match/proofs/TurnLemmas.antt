-- A search that is opened, and that moves past a document.
use Rattle.std.proofs.Common.{◌≡◌, ◌≤◌, ◌<◌, ◌+◌, ◌⊎◌, ℕ, suc, Bool, true, false, cond, ◌&&◌, ◌||◌, nat_le, nat_lt, max, List, [], ◌∷◌, length, filter, Option, None, Some, option_map, is_some, unwrap_or, refl, sym, ap, ◌∙◌, subst, arith, inl, inr, true≢false}
use Rattle.std.specs.List.{AllByRecursion, cons_option}
use Rattle.std.proofs.lemmas.Bool.{and_parts, le-leb, lt-leb, ltb-false, ltb-true}
use Rattle.sk_base.specs.declared.find.Paging.{Paging}
use Rattle.sk_base.specs.declared.find.Options.{Options}
use Rattle.sk_base.specs.declared.rank.Rank.{Rank}
use Rattle.sk_base.specs.declared.find.Collapse.{Collapse}
use Rattle.sk_base.specs.Numbers.{Docs}
use Rattle.sk_sorted.specs.Entries.{RiseAbove, AreSorted, first_id}
use Rattle.sk_query.specs.declared.form.Form.{Form}
use Rattle.sk_query.specs.Trees as Query
use Rattle.sk_query.specs.Fits.{is_sound, leaves_of, depth_of, fits_tree}
use Rattle.sk_model.specs.Bounds.{ceil, static_count}
use Rattle.sk_model.specs.Covers.{CoversAt}
use Rattle.sk_model.specs.Counts.{wanted_by}
use Rattle.sk_model.specs.Documents.{Document}
use Rattle.sk_model.specs.Edits.{last_id}
use Rattle.sk_model.specs.Settled.{settled, stop_point, decay_point}
use Rattle.sk_model.specs.Sharp.{is_plain, flat_lists, ups, rare_lists, rare_readings, terms_in, decay_readings}
use Rattle.sk_model.specs.Matches.{key_of, found_by}
use Rattle.sk_index.specs.Indexed.{Indexed}
use Rattle.sk_tree.specs.Built as Nodes
use Rattle.sk_tree.specs.Built.{gives, left, scored, Built}
use Rattle.sk_nodes.specs.Flat.{IsAtLeast}
use Rattle.sk_tree.specs.Stops.{PaysToStop, MayMove}
use Rattle.sk_tree.specs.Rare.{Rare}
use Rattle.sk_tree.specs.Decays.{MayFall, DecaysBoth}
use Rattle.sk_tree.specs.declared.tree.Tree.{Tree}
use Rattle.sk_heap.specs.Held.{need_of}
use Rattle.sk_collapse.specs.Collapsed.{Collapsed}
use Rattle.sk_page.specs.Pages.{CollapsesBy}
use Rattle.sk_page.specs.Needs.{is_above, is_settled, need_for}
use Rattle.sk_page.specs.Views.{OpensPage, PageOf, MaySee, Sees}
use Rattle.sk_page.specs.declared.page.Page.{Page}
use Rattle.sk_page.proofs.WalkLaws as Walks
use Rattle.sk_page.proofs.WalkLaws.{weighed, scores}
use Rattle.sk_page.proofs.FewerLaws.{none_either, same_given, fewer_left}
use Rattle.sk_page.proofs.SeeLaws.{page_opened, may_see, at_last, Looked, passed_by, looked_at, gone_on, wanted_before, asked_behind, head_early}
use Rattle.sk_report.specs.Paces.{reached_by}
use Rattle.sk_page.proofs.PaceLaws.{no_cutoff, reached_on}
use Rattle.sk_match.specs.Searches.{IsOn, Stands, TreePasses, PassesUnseen, AsksBehind}
use Rattle.sk_match.specs.declared.open_search.Search.{Search}

-- ---- a search that was opened

pub opened : (i : Indexed) (s : Search) (paging : Paging) (query : Query.Tree) → fits_tree query ≡ true
    → Built s.tree i query paging.options.scheme
    → left i s.tree ≡ scored query paging.options.scheme 1 i.live.documents
    → s.tree.need ≡ 0 → s.need ≡ 0 → OpensPage paging s.page
    → s.bounds ≡ record { greatest = ceil query paging.options.scheme 1 i.live.documents; most = static_count query i.live.documents }
    → ((lists : List (List ℕ)) → flat_lists query i.live.documents ≡ Some lists → (point : ℕ) → PaysToStop i s.tree point (ups lists point i.live.documents))
    → ((lists : List (List ℕ)) (m : ℕ) → rare_lists query i.live.documents ≡ Some (lists, m) → Rare i s.tree (rare_readings lists m i.live.documents))
    → ((ts : Query.Trees) (a b : List ℕ) → query ≡ Query.parts Form.Or ts → terms_in ts ≡ Some (a ∷ b ∷ []) → (point : ℕ) → DecaysBoth i s.tree paging.options.scheme point a b)
    → Stands s i paging query
opened i s paging query fits built all none need opens bounds stops rare decays =
    let docs = i.live.documents in
    let rise : RiseAbove 0 docs = built.tree.documents.rise in
    let page : PageOf s.page query paging docs (ceil query paging.options.scheme 1 docs) (gives i s.tree) 0 = page_opened query paging docs (ceil query paging.options.scheme 1 docs) (gives i s.tree) rise (same_given (λ one. gives i s.tree one.0) (scores query paging) 0 docs rise all) s.page opens in
    record {
      built = built;
      sound = (and_parts (is_sound 1 query) (nat_le (leaves_of query) 1024) (and_parts (is_sound 1 query && nat_le (leaves_of query) 1024) (nat_le (depth_of query) 1000) fits).0).0;
      bounds = bounds;
      need = need ∙ sym none;
      low = λ _. omega (arith, need);
      page = subst (λ n. PageOf s.page query paging docs (ceil query paging.options.scheme 1 docs) (gives i s.tree) n) (sym need) page;
      accounts = record {
        stops = λ _ lists e. stops lists e (stop_point query paging docs);
        rare = rare;
        decays = λ _ ts a b is terms. ((decays ts a b is terms (decay_point query (Query.term b) paging docs)).0, (decays ts a b is terms (decay_point query (Query.term a) paging docs)).1);
        pace = λ lists e _ point _. stops lists e point;
      };
    }

-- ---- a search at a head

first_same : (ps : List (ℕ × ℕ)) → Nodes.first_weight ps ≡ Walks.first_weight ps
first_same [] = refl
first_same (p ∷ ps) = refl

pub high_of : (page : Page) (ceiling : ℕ) → is_settled page.options page.seen page.heap ceiling ≡ false → page.options.cutoff ≤ ceiling
high_of page ceiling e = step (nat_lt ceiling page.options.cutoff) refl e
  where
    step : (b : Bool) → nat_lt ceiling page.options.cutoff ≡ b → (b || (nat_le (wanted_by page.options) page.seen && is_above (need_of page.heap) ceiling)) ≡ false → page.options.cutoff ≤ ceiling
    step true f e = absurd (true≢false e)
    step false f e = ltb-false ceiling page.options.cutoff f

module _ (i : Indexed) (old : Search) (paging : Paging) (query : Query.Tree) (stands : Stands old i paging query) (h w : ℕ) (head : Some h ≡ first_id (left i old.tree)) (weight : w ≡ Nodes.first_weight (left i old.tree)) where
  abbrev docs : Docs
  docs = i.live.documents

  abbrev give : ℕ → Option ℕ
  give = gives i old.tree

  abbrev sorted : AreSorted docs
  sorted = stands.built.tree.documents

  abbrev stop : ℕ
  stop = stop_point query paging docs

  abbrev greatest : ℕ
  greatest = ceil query paging.options.scheme 1 docs

  pub weight_there : w ≡ Walks.first_weight (weighed give docs)
  weight_there = weight ∙ first_same (left i old.tree)

  -- it may see the document there
  pub fits_head : (ceiling : ℕ) → ceiling ≡ old.tree.top.greatest → ((id : ℕ) → unwrap_or (give id) 0 ≤ ceiling) → MaySee old.page h w
  fits_head ceiling is most = may_see query paging docs greatest give old.need old.page stands.page sorted h w (sym head) weight_there ceiling most (let small = stands.built.tree.fits in omega (arith, is, small))

  -- a search that goes on is at no document behind the stop point
  pub early_head : is_settled old.page.options old.page.seen old.page.heap old.tree.top.greatest ≡ false → is_plain paging ≡ true → h ≤ stop
  early_head goes plain = head_early query paging docs greatest give old.need old.page stands.page sorted h w (sym head) weight_there old.tree.top.greatest stands.built.ceiling goes plain

  at_end : h ≤ last_id
  at_end = at_last query paging docs greatest give old.need old.page stands.page sorted h w (sym head) weight_there

  abbrev LookedOn : Page → List Rank → Type 0
  LookedOn mid saw2 = Looked query paging docs greatest give old.need old.page stands.page sorted h w (sym head) weight_there mid saw2

  -- ---- past the head

  module _ (high : old.page.options.cutoff ≤ old.tree.top.greatest) (mid : Page) (saw2 : List Rank) (looked : LookedOn mid saw2) (new : Search) (passes : PassesUnseen i h (record old { page = mid }) new) where
    asked : ((new.need ≡ old.need) × (h ≡ last_id)) ⊎ (new.need ≡ max old.need (need_for mid.options mid.seen mid.heap old.tree.top.greatest))
    asked = by_asked passes.asked
      where
        by_asked : AsksBehind i h (record old { page = mid }) new → ((new.need ≡ old.need) × (h ≡ last_id)) ⊎ (new.need ≡ max old.need (need_for mid.options mid.seen mid.heap old.tree.top.greatest))
        by_asked (inl last) = inl (last.0, last.1)
        by_asked (inr e) = inr e

    asked_so : (new.need ≡ old.need) ⊎ (new.need ≡ max old.need (need_for mid.options mid.seen mid.heap old.tree.top.greatest))
    asked_so = weaker asked
      where
        weaker : ((new.need ≡ old.need) × (h ≡ last_id)) ⊎ (new.need ≡ max old.need (need_for mid.options mid.seen mid.heap old.tree.top.greatest)) → (new.need ≡ old.need) ⊎ (new.need ≡ max old.need (need_for mid.options mid.seen mid.heap old.tree.top.greatest))
        weaker (inl e) = inl e.0
        weaker (inr e) = inr e

    wanted_at : is_plain paging ≡ true → h < stop → stop < last_id → (v : ℕ) × (give stop ≡ Some v) × (new.need ≤ v)
    wanted_at = wanted_before query paging docs greatest give old.need old.page stands.page sorted h w (sym head) weight_there mid saw2 looked old.tree.top.greatest new.need (gives i new.tree) asked_so passes.over

    behind : is_plain paging ≡ true → (least : ℕ) → settled paging (found_by query paging docs) least ≤ h → h < last_id → (least < new.need) ⊎ (old.tree.top.greatest < new.need)
    behind = asked_behind query paging docs greatest give old.need old.page stands.page sorted h w (sym head) weight_there mid saw2 looked old.tree.top.greatest new.need (gives i new.tree) asked_so passes.over asked

    at_least : (o : Option ℕ) (v n : ℕ) → o ≡ Some v → n ≤ v → IsAtLeast n o
    at_least o v n e l = subst (IsAtLeast n) (sym e) l

    may_go : is_plain paging ≡ true → (h ≡ last_id) ⊎ MayMove stop (h + 1) new.need old.tree.top.greatest (give stop)
    may_go plain = by_end (nat_lt h last_id) refl
      where
        from_stop : (ceil query paging.options.scheme 1 docs < new.need) ⊎ (old.tree.top.greatest < new.need) → MayMove stop (h + 1) new.need old.tree.top.greatest (give stop)
        from_stop (inl more) = inl (omega (arith, more, stands.built.ceiling))
        from_stop (inr more) = inl more

        before_stop : h < stop → (v : ℕ) × (give stop ≡ Some v) × (new.need ≤ v) → MayMove stop (h + 1) new.need old.tree.top.greatest (give stop)
        before_stop before t = inr (inr (inr (omega (arith, before), at_least (give stop) t.0 new.need t.1 t.2)))

        by_point : h < last_id → (a : Bool) → nat_lt h stop ≡ a → (b : Bool) → nat_lt stop last_id ≡ b → MayMove stop (h + 1) new.need old.tree.top.greatest (give stop)
        by_point within false f b g = from_stop (behind plain (ceil query paging.options.scheme 1 docs) (ltb-false h stop f) within)
        by_point within true f true g = before_stop (ltb-true h stop f) (wanted_at plain (ltb-true h stop f) (ltb-true stop last_id g))
        by_point within true f false g = let far = ltb-false stop last_id g in inr (inl (omega (arith, far)))

        by_end : (b : Bool) → nat_lt h last_id ≡ b → (h ≡ last_id) ⊎ MayMove stop (h + 1) new.need old.tree.top.greatest (give stop)
        by_end false e = let far = ltb-false h last_id e in let small = at_end in inl (omega (arith, far, small))
        by_end true e = inr (by_point (ltb-true h last_id e) (nat_lt h stop) refl (nat_lt stop last_id) refl)

    -- behind the point at which a part cannot matter alone, it is not enough
    may_fall : is_plain paging ≡ true → (least : ℕ) → (h ≡ last_id) ⊎ MayFall (settled paging (found_by query paging docs) least) least (h + 1) new.need old.tree.top.greatest
    may_fall plain least = by_end (nat_lt h last_id) refl
      where
        point : ℕ
        point = settled paging (found_by query paging docs) least

        above : (least < new.need) ⊎ (old.tree.top.greatest < new.need) → MayFall point least (h + 1) new.need old.tree.top.greatest
        above (inl more) = inr (inr more)
        above (inr more) = inl more

        by_point : h < last_id → (b : Bool) → nat_lt point h ≡ b → MayFall point least (h + 1) new.need old.tree.top.greatest
        by_point within false f = let near = ltb-false point h f in inr (inl (omega (arith, near)))
        by_point within true f = let after = ltb-true point h f in above (behind plain least (omega (arith, after)) within)

        by_end : (b : Bool) → nat_lt h last_id ≡ b → (h ≡ last_id) ⊎ MayFall point least (h + 1) new.need old.tree.top.greatest
        by_end false e = let far = ltb-false h last_id e in let small = at_end in inl (omega (arith, far, small))
        by_end true e = inr (by_point (ltb-true h last_id e) (nat_lt point h) refl)

    -- while nothing is asked for, it reads no list behind what was seen by more than one entry
    pace_on : (lists : List (List ℕ)) → flat_lists query docs ≡ Some lists → new.need ≡ 0 → (point : ℕ) → reached_by mid.seen (found_by query paging docs) ≤ point → PaysToStop i new.tree point (ups lists point docs)
    pace_on lists flat none point far = by_asked asked
      where
        reach : (reached_by old.page.seen (found_by query paging docs) ≤ point) × (paging.options.cutoff ≤ w → h ≤ point)
        reach = reached_on query paging docs greatest give old.need old.page stands.page sorted h w (sym head) weight_there mid saw2 looked old.tree.top.greatest new.need (gives i new.tree) asked_so passes.over (omega (arith, none)) point far

        by_asked : ((new.need ≡ old.need) × (h ≡ last_id)) ⊎ (new.need ≡ max old.need (need_for mid.options mid.seen mid.heap old.tree.top.greatest)) → PaysToStop i new.tree point (ups lists point docs)
        by_asked (inl last) = let same = last.0 in passes.stops point (ups lists point docs) (stands.accounts.pace lists flat (omega (arith, same, none)) point reach.0) (inl last.1)
        by_asked (inr e) =
            let cut : mid.options.cutoff ≡ 0 = no_cutoff mid.options mid.seen old.tree.top.greatest mid.heap (omega (arith, none, e)) in
            let same : mid.options.cutoff ≡ paging.options.cutoff = ap (λ (o : Options). o.cutoff) looked.options in
            let near = reach.1 (omega (arith, cut, same)) in
            passes.stops point (ups lists point docs) (stands.accounts.pace lists flat (omega (arith, none, e)) point reach.0) (inr (inr (inr (inl (none, omega (arith, near))))))

    pub moved : Stands new i paging query
    moved = record {
      built = passes.built query paging.options.scheme stands.built;
      sound = stands.sound;
      bounds = passes.bounds ∙ stands.bounds;
      need = passes.need;
      low = λ low. let cut : old.page.options.cutoff ≡ paging.options.cutoff = ap (λ (o : Options). o.cutoff) stands.page.options in absurd (omega (arith, low, high, cut, stands.built.ceiling));
      page = subst (λ p. PageOf p query paging docs greatest (gives i new.tree) new.need) (sym passes.page)
          (gone_on query paging docs greatest give old.need old.page stands.page sorted h w (sym head) weight_there mid saw2 looked old.tree.top.greatest new.need (gives i new.tree) asked_so passes.over);
      accounts = record {
        stops = λ plain lists flat. passes.stops stop (ups lists stop docs) (stands.accounts.stops plain lists flat) (may_go plain);
        rare = λ lists m is. passes.rare (rare_readings lists m docs) (stands.accounts.rare lists m is);
        decays = λ plain ts a b is terms.
            let both = stands.accounts.decays plain ts a b is terms in (
              passes.decays (decay_point query (Query.term b) paging docs) (ceil (Query.term b) paging.options.scheme 1 docs) (decay_readings a b (decay_point query (Query.term b) paging docs) docs 0) both.0
                  (may_fall plain (ceil (Query.term b) paging.options.scheme 1 docs)),
              passes.decays (decay_point query (Query.term a) paging docs) (ceil (Query.term a) paging.options.scheme 1 docs) (decay_readings b a (decay_point query (Query.term a) paging docs) docs 0) both.1
                  (may_fall plain (ceil (Query.term a) paging.options.scheme 1 docs)),
            );
        pace = λ lists flat none point far. pace_on lists flat none point (subst (λ (p : Page). reached_by p.seen (found_by query paging docs) ≤ point) passes.page far);
      };
    }

  module _ (high : old.page.options.cutoff ≤ old.tree.top.greatest) (new : Search) where
    cut_same : old.page.options.cutoff ≡ paging.options.cutoff
    cut_same = ap (λ (o : Options). o.cutoff) stands.page.options

    pub turned_seen : (mid : Page) → old.page.options.cutoff ≤ w → Sees docs h w old.page mid → PassesUnseen i h (record old { page = mid }) new → Stands new i paging query
    turned_seen mid enough sees passes =
        let looked = looked_at query paging docs greatest give old.need old.page stands.page sorted h w (sym head) weight_there mid (omega (arith, enough, cut_same)) sees in
        moved high mid looked.0 looked.1 new passes

    pub turned_light : w < old.page.options.cutoff → PassesUnseen i h old new → Stands new i paging query
    turned_light light passes =
        moved high old.page stands.page.saw (passed_by query paging docs greatest give old.need old.page stands.page sorted h w (sym head) weight_there (omega (arith, light, cut_same))) new passes

-- ---- fewer are left

-- fewer up to an id
module _ (id : ℕ) where
  abbrev up_to_id : List (ℕ × ℕ) → List (ℕ × ℕ)
  up_to_id ps = filter (λ (p : ℕ × ℕ). nat_le p.0 id) ps

  one_more : (b : Bool) (p : ℕ × ℕ) (ps : List (ℕ × ℕ)) → length (cond b (p ∷ ps) ps) ≡ cond b 1 0 + length ps
  one_more true p ps = omega arith
  one_more false p ps = omega arith

  fewer_to_step : (give give2 : ℕ → Option ℕ) (need h : ℕ) (docs : Docs) → AllByRecursion (λ (d : ℕ × Document). CoversAt (cond (nat_le (h + 1) d.0) (give d.0) None) (give2 d.0) need) docs
      → length (up_to_id (weighed give2 docs)) ≤ length (up_to_id (weighed give docs))
  fewer_to_step give give2 need h [] over = omega arith
  fewer_to_step give give2 need h (d ∷ docs) over = step (nat_le (h + 1) d.0) (give d.0) (give2 d.0) over.0 (fewer_to_step give give2 need h docs over.1)
    where
      step : (b : Bool) (o p : Option ℕ) → CoversAt (cond b o None) p need → length (up_to_id (weighed give2 docs)) ≤ length (up_to_id (weighed give docs))
          → length (up_to_id (cons_option (option_map (λ w. (d.0, w)) p) (weighed give2 docs))) ≤ length (up_to_id (cons_option (option_map (λ w. (d.0, w)) o) (weighed give docs)))
      step b None None c le = le
      step b (Some v) None c le = omega (arith, le, one_more (nat_le d.0 id) (d.0, v) (up_to_id (weighed give docs)))
      step true None (Some w) c le = absurd c
      step false None (Some w) c le = absurd c
      step b (Some v) (Some w) c le = omega (arith, le, one_more (nat_le d.0 id) (d.0, v) (up_to_id (weighed give docs)), one_more (nat_le d.0 id) (d.0, w) (up_to_id (weighed give2 docs)))

  fewer_to : (give give2 : ℕ → Option ℕ) (need h : ℕ) (docs : Docs) → h ≤ id → first_id (weighed give docs) ≡ Some h → AllByRecursion (λ (d : ℕ × Document). CoversAt (cond (nat_le (h + 1) d.0) (give d.0) None) (give2 d.0) need) docs
      → length (up_to_id (weighed give2 docs)) < length (up_to_id (weighed give docs))
  fewer_to give give2 need h [] early e over = absurd (true≢false (sym (ap is_some e)))
  fewer_to give give2 need h (d ∷ docs) early e over = step (give d.0) (give2 d.0) e over.0 (fewer_to_step give give2 need h docs over.1) (λ f. fewer_to give give2 need h docs early f over.1)
    where
      not_later : (b : ℕ) → b ≡ h → nat_le (h + 1) b ≡ false
      not_later b same = lt-leb (h + 1) b (omega (arith, same))

      up_is : (b : ℕ) → b ≡ h → nat_le b id ≡ true
      up_is b same = le-leb b id (omega (arith, same, early))

      step : (o p : Option ℕ) → first_id (cons_option (option_map (λ w. (d.0, w)) o) (weighed give docs)) ≡ Some h → CoversAt (cond (nat_le (h + 1) d.0) o None) p need → length (up_to_id (weighed give2 docs)) ≤ length (up_to_id (weighed give docs))
          → (first_id (weighed give docs) ≡ Some h → length (up_to_id (weighed give2 docs)) < length (up_to_id (weighed give docs)))
          → length (up_to_id (cons_option (option_map (λ w. (d.0, w)) p) (weighed give2 docs))) < length (up_to_id (cons_option (option_map (λ w. (d.0, w)) o) (weighed give docs)))
      step None None f c le rest = rest f
      step None (Some w) f c le rest = absurd (subst (λ (o : Option ℕ). CoversAt o (Some w) need) (none_either (nat_le (h + 1) d.0)) c)
      step (Some v) None f c le rest =
          let same : d.0 ≡ h = ap (λ o. unwrap_or o 0) f in
          let more : length (up_to_id ((d.0, v) ∷ weighed give docs)) ≡ suc (length (up_to_id (weighed give docs))) = ap (λ b. length (cond b ((d.0, v) ∷ up_to_id (weighed give docs)) (up_to_id (weighed give docs)))) (up_is d.0 same) in
          omega (arith, le, more)
      step (Some v) (Some w) f c le rest =
          let same : d.0 ≡ h = ap (λ o. unwrap_or o 0) f in
          absurd (subst (λ b. CoversAt (cond b (Some v) None) (Some w) need) (not_later d.0 same) c)

pub turned_fewer : (i : Indexed) (h need : ℕ) (old new : Tree) → Some h ≡ first_id (left i old) → TreePasses i h old new need → length (left i new) < length (left i old)
turned_fewer i h need old new head over = fewer_left (gives i old) (gives i new) need h i.live.documents (sym head) over

pub turned_early : (i : Indexed) (point h need : ℕ) (old new : Tree) → h ≤ point → Some h ≡ first_id (left i old) → TreePasses i h old new need
    → length (filter (λ (p : ℕ × ℕ). nat_le p.0 point) (left i new)) < length (filter (λ (p : ℕ × ℕ). nat_le p.0 point) (left i old))
turned_early i point h need old new early head over = fewer_to point (gives i old) (gives i new) need h i.live.documents early (sym head) over

-- without collapsing there is no collapser
pub none_collapses : (i : Indexed) (old : Search) → IsOn old i → old.page.collapse ≡ None → old.page.collapser ≡ None
none_collapses i old on none = by_both on.0.collapse (key_of on.0.collapse i.live.documents) old.page.collapser (sym on.2.page.collapse ∙ none) on.2.page.pages.collapse
  where
    by_both : (o : Option Collapse) (key : Rank → List ℕ) (c : Option Collapsed) → o ≡ None → CollapsesBy o on.0.order key on.2.page.pages.newest c → c ≡ None
    by_both None key None e h = refl
    by_both None key (Some c) e h = absurd h
    by_both (Some o) key c e h = absurd (cc)
