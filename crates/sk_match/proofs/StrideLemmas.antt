-- A search that moves past a match, and past those behind it that come behind its page by their values.
use Rattle.std.proofs.Common.{◌≡◌, ◌≤◌, ◌<◌, ◌+◌, ◌-◌, ◌^◌, ℕ, Bool, true, false, not, ◌||◌, min, is_none, List, [], ◌∷◌, ◌++◌, length, Option, None, Some, refl, sym, ap, ◌∙◌, subst, arith, inl, inr, true≢false}
use Rattle.std.specs.List.{AllByRecursion}
use Rattle.std.specs.Ordering.{is_le}
use Rattle.std.proofs.lemmas.List.{length-append}
use Rattle.sk_base.specs.declared.find.Options.{Options}
use Rattle.sk_base.specs.declared.find.Paging.{Paging}
use Rattle.sk_base.specs.declared.rank.SortKey.{SortKey}
use Rattle.sk_base.specs.Before.{value_cmp}
use Rattle.sk_base.specs.Numbers.{Docs}
use Rattle.sk_sorted.specs.Entries.{first_id}
use Rattle.sk_query.specs.Trees as Query
use Rattle.sk_model.specs.Bounds.{ceil}
use Rattle.sk_model.specs.Documents.{Document}
use Rattle.sk_model.specs.Edits.{document_at}
use Rattle.sk_model.specs.Counts.{wanted}
use Rattle.sk_model.specs.Matches.{found_by}
use Rattle.sk_model.specs.Settled.{stop_point}
use Rattle.sk_model.specs.Sharp.{is_plain}
use Rattle.sk_index.specs.Indexed.{Indexed, slot_value}
use Rattle.sk_report.specs.Paces.{reached_by}
use Rattle.sk_tree.specs.Built as Nodes
use Rattle.sk_tree.specs.Built.{gives, left}
use Rattle.sk_tree.specs.Skips.{IsBehind}
use Rattle.sk_tree.specs.declared.tree.Tree.{Tree}
use Rattle.sk_page.specs.Needs.{is_settled}
use Rattle.sk_page.specs.Hits.{value_in_slot}
use Rattle.sk_page.specs.Views.{PageOf, Sees}
use Rattle.sk_page.specs.declared.page.Page.{Page}
use Rattle.sk_page.proofs.WalkLaws.{weighed}
use Rattle.sk_page.proofs.EdgeLaws.{behind, FallsOut, gone_behind, weighed_behind_first, page_counts}
use Rattle.sk_match.specs.Searches.{left_to_stop, is_done, Stands, TreePasses, PassesUnseen, PassesBehind, PassesFar, SeesHead, LooksAt, Looks}
use Rattle.sk_match.specs.declared.open_search.Search.{Search}
use Rattle.sk_match.proofs.FinishLemmas.{seen_enough}
use Rattle.sk_match.proofs.TurnLemmas.{high_of, early_head, weight_there, turned_seen, turned_light, turned_fewer, turned_early}

slot_same : (slot : ℕ) (o : Option Document) → value_in_slot slot o ≡ slot_value slot o
slot_same slot None = refl
slot_same slot (Some d) = refl

not_so : (b : Bool) → not b ≡ true → b ≡ false
not_so true e = absurd (true≢false (sym e))
not_so false e = refl

module _ (i : Indexed) (paging : Paging) (key : SortKey) (last : List ℕ) (low : paging.options.cutoff ≡ 0) where
  falls : (ps : List (ℕ × ℕ)) → AllByRecursion (IsBehind i key last) ps → AllByRecursion (FallsOut paging i.live.documents key last) ps
  falls [] all = tt
  falls (p ∷ ps) all = (
    (omega (arith, low), ap (λ v. is_le (value_cmp key v last)) (slot_same key.slot (document_at p.0 i.live.documents)) ∙ not_so (is_le (value_cmp key (slot_value key.slot (document_at p.0 i.live.documents)) last)) all.0.behind),
    falls ps all.1,
  )

module _ (i : Indexed) (old : Search) (paging : Paging) (query : Query.Tree) (stands : Stands old i paging query) (h w : ℕ) (head : Some h ≡ first_id (left i old.tree)) (weight : w ≡ Nodes.first_weight (left i old.tree))
    (high : old.page.options.cutoff ≤ old.tree.top.greatest) where
  cut_same : old.page.options.cutoff ≡ paging.options.cutoff
  cut_same = ap (λ (o : Options). o.cutoff) stands.page.options

  abbrev docs : Docs
  docs = i.live.documents

  abbrev greatest : ℕ
  greatest = ceil query paging.options.scheme 1 docs

  strode : (mid new : Search) → (page : Page) → mid ≡ record old { page = page } → Sees docs h w old.page page → PassesBehind i mid new → Stands new i paging query
  strode mid new page is sees passes_mid = record {
    built = passes.built query paging.options.scheme stands.built;
    sound = stands.sound;
    bounds = passes.bounds ∙ stands.bounds;
    need = passes.need ∙ stands.need ∙ sym passes.tree_need;
    low = λ low. absurd (omega (arith, low, high, cut_same, stands.built.ceiling));
    page = subst (λ p. PageOf p query paging docs greatest (gives i new.tree) new.need) (sym passes.page) (subst (λ n. PageOf (record page { seen = min (2 ^ 32 - 1) (page.seen + passes.count) }) query paging docs greatest (gives i new.tree) n) (sym passes.need) counted);
    accounts = record {
      stops = λ plain lists flat. absurd (passes.skips.no_stops _ _ (stands.accounts.stops plain lists flat));
      rare = λ lists m is. absurd (passes.skips.not_rare _ (stands.accounts.rare lists m is));
      decays = λ plain ts a b is terms. absurd (passes.skips.no_decays _ _ _ (stands.accounts.decays plain ts a b is terms).0);
      pace = λ lists flat none point far. absurd (passes.skips.no_stops _ _ (stands.accounts.pace lists flat (omega (arith, none, passes.need)) (reached_by old.page.seen (found_by query paging docs)) (omega arith)));
    };
  }
    where
      passes : PassesBehind i (record old { page = page }) new
      passes = subst (λ (s : Search). PassesBehind i s new) is passes_mid

      none : paging.options.cutoff ≡ 0
      none = let light = passes.skips.weightless in omega (arith, high, light, cut_same)

      first_is : passes.skips.first.0 ≡ h
      first_is = sym (some_is h passes.skips.first.0 (head ∙ ap first_id passes.skips.is))
        where
          some_is : (a b : ℕ) → Some a ≡ Some b → a ≡ b
          some_is a b e = cc

      seen : PageOf page query paging docs greatest (behind h (gives i old.tree)) old.need
      seen = gone_behind query paging docs greatest old.need stands.built.tree.documents (gives i old.tree) old.page stands.page h w (sym head) (weight_there i old paging query stands h w head weight) page (omega (arith, none)) sees

      rest : weighed (behind h (gives i old.tree)) docs ≡ passes.skips.passed ++ left i new.tree
      rest = weighed_behind_first h passes.skips.first.1 0 (passes.skips.passed ++ left i new.tree) (gives i old.tree) docs stands.built.tree.documents.rise (passes.skips.is ∙ (λ k. (first_is k, passes.skips.first.1) ∷ (passes.skips.passed ++ left i new.tree)))

      counted : PageOf (record page { seen = min (2 ^ 32 - 1) (page.seen + passes.count) }) query paging docs greatest (gives i new.tree) old.need
      counted = page_counts query paging docs greatest old.need stands.built.tree.documents passes.key passes.last passes.count passes.skips.passed (behind h (gives i old.tree)) (gives i new.tree) page seen passes.edge rest passes.skips.counted
          (falls i paging passes.key passes.last none passes.skips.passed passes.skips.behind)

  -- where it saw the match at its head
  pub strided_seen : (mid new : Search) (page : Page) → mid ≡ record old { page = page } → old.page.options.cutoff ≤ w → Sees docs h w old.page page → PassesFar i h mid new → Stands new i paging query
  strided_seen mid new page is enough sees (inl passes) =
      turned_seen i old paging query stands h w head weight high new page enough sees (subst (λ (s : Search). PassesUnseen i h s new) is passes)
  strided_seen mid new page is enough sees (inr passes) = strode mid new page is sees passes

  -- where that weighs too little
  pub strided_light : (mid new : Search) → mid ≡ old → w < old.page.options.cutoff → PassesFar i h mid new → Stands new i paging query
  strided_light mid new is light (inl passes) = turned_light i old paging query stands h w head weight high new light (subst (λ (s : Search). PassesUnseen i h s new) is passes)
  strided_light mid new is light (inr passes) =
      let none : old.tree.top.greatest ≡ 0 = ap (λ (s : Search). s.tree.top.greatest) (sym is) ∙ passes.skips.weightless in
      absurd (omega (arith, light, high, none))

strode_fewer : (i : Indexed) (old new : Search) → PassesBehind i old new → length (left i new.tree) < length (left i old.tree)
strode_fewer i old new passes =
    let all : length (left i old.tree) ≡ length (passes.skips.first ∷ (passes.skips.passed ++ left i new.tree)) = ap length passes.skips.is in
    let both : length (passes.skips.passed ++ left i new.tree) ≡ length passes.skips.passed + length (left i new.tree) = length-append passes.skips.passed (left i new.tree) in
    omega (arith, all, both)

-- fewer are left
pub strided_fewer : (i : Indexed) (h : ℕ) (old : Tree) (mid new : Search) → mid.tree ≡ old → Some h ≡ first_id (left i old) → PassesFar i h mid new → length (left i new.tree) < length (left i old)
strided_fewer i h old mid new is head (inl passes) = turned_fewer i h new.need old new.tree head (subst (λ (t : Tree). TreePasses i h t new.tree new.need) is passes.over)
strided_fewer i h old mid new is head (inr passes) = subst (λ (t : Tree). length (left i new.tree) < length (left i t)) is (strode_fewer i mid new passes)

-- ---- a search that looked at its head

pub looked_at_head : (i : Indexed) (o : Option ℕ) (h : ℕ) (old mid : Search) → o ≡ Some h → Looks i o old mid → LooksAt i h old mid
looked_at_head i o h old mid is looks = subst (λ o. Looks i o old mid) is looks

settled_not : (a b : Bool) → (a || b) ≡ false → b ≡ false
settled_not true b e = absurd (true≢false e)
settled_not false b e = e

module _ (i : Indexed) (old mid : Search) (h : ℕ) (looks : LooksAt i h old mid) where
  goes_on : is_settled old.page.options old.page.seen old.page.heap old.tree.top.greatest ≡ false
  goes_on = settled_not (is_none (first_id (left i old.tree))) (is_settled old.page.options old.page.seen old.page.heap old.tree.top.greatest) looks.goes

  same_tree : mid.tree ≡ old.tree
  same_tree = ap (λ (s : Search). s.tree) looks.rest

  -- it stands where it moves past that, or past more
  pub looked_far : (new : Search) → PassesFar i h mid new → (paging : Paging) (query : Query.Tree) → Stands old i paging query → Stands new i paging query
  looked_far new passes paging query stands = by looks.sees
    where
      high : old.page.options.cutoff ≤ old.tree.top.greatest
      high = high_of old.page old.tree.top.greatest goes_on

      by : SeesHead i h (Nodes.first_weight (left i old.tree)) old mid → Stands new i paging query
      by (inl seen) = strided_seen i old paging query stands h (Nodes.first_weight (left i old.tree)) (sym looks.first) refl high mid new mid.page looks.rest seen.0 seen.1 passes
      by (inr light) = strided_light i old paging query stands h (Nodes.first_weight (left i old.tree)) (sym looks.first) refl high mid new (looks.rest ∙ (λ k. record old { page = light.1 k })) light.0 passes

  pub looked_fewer : (new : Search) → PassesFar i h mid new → length (left i new.tree) < length (left i old.tree)
  looked_fewer new passes = strided_fewer i h old.tree mid new same_tree (sym looks.first) passes

  pub looked_early : (new : Search) → PassesUnseen i h mid new → (paging : Paging) (query : Query.Tree) → Stands old i paging query → is_plain paging ≡ true → left_to_stop paging query i new < left_to_stop paging query i old
  looked_early new passes paging query stands plain =
      turned_early i (stop_point query paging i.live.documents) h new.need old.tree new.tree (early_head i old paging query stands h (Nodes.first_weight (left i old.tree)) (sym looks.first) refl goes_on plain) (sym looks.first)
      (subst (λ (t : Tree). TreePasses i h t new.tree new.need) same_tree passes.over)

-- it saw enough where it is done
pub looked_enough : (i : Indexed) (old : Search) → is_done i old ≡ true → (paging : Paging) (query : Query.Tree) → Stands old i paging query → min (wanted paging) (length (found_by query paging i.live.documents)) ≤ old.page.seen
looked_enough i old done paging query stands = seen_enough i old paging query stands old.tree.top.greatest refl stands.built.tree.top.bound done
