-- An open search from its opening on.
use Rattle.std.proofs.Common.{◌≡◌, ◌≢◌, ◌≤◌, ◌<◌, ◌+◌, ◌-◌, ◌^◌, ◌⊎◌, inl, inr, ℕ, suc, Bool, true, false, min, nat_le, nat_lt, List, [], ◌∷◌, map, length, filter, Option, None, Some, option_map, refl, sym, ap, ◌∙◌, subst, arith, cond, true≢false}
use Rattle.std.specs.List.{cons_option}
use Rattle.std.proofs.lemmas.Bool.{ltb-true, ltb-false}
use Rattle.std.proofs.lemmas.List.{length-map}
use Rattle.sk_base.specs.declared.find.Options.{Options}
use Rattle.sk_base.specs.declared.find.Paging.{Paging}
use Rattle.sk_base.specs.declared.find.Scheme.{Scheme}
use Rattle.sk_base.specs.declared.rank.Order.{Order}
use Rattle.sk_base.specs.declared.rank.Rank.{Rank}
use Rattle.sk_base.specs.Numbers.{Docs}
use Rattle.sk_sorted.proofs.EntryLaws.{length_fits}
use Rattle.sk_query.specs.Trees.{Tree}
use Rattle.sk_model.specs.Counts.{wanted}
use Rattle.sk_model.specs.Documents.{Document}
use Rattle.sk_model.specs.Matches.{matches, rank_of, value_for, found_by}
use Rattle.sk_model.specs.Scores.{score}
use Rattle.sk_model.specs.Settled.{stop_point}
use Rattle.sk_model.specs.Sharp.{is_plain, flat_lists, ups, sharp}
use Rattle.sk_report.specs.Flights.{Open, MayHaveTurned, MayHaveRead, MayBeOpen}
use Rattle.sk_report.specs.Paces.{reached_by, IsEarly}
use Rattle.sk_index.specs.Indexed.{Indexed}
use Rattle.sk_page.specs.declared.page.Page.{Page}
use Rattle.sk_tree.specs.Built.{scored, first_weight}
use Rattle.sk_match.specs.Paces.{ups_seen}
use Rattle.sk_match.specs.Searches.{Stands, IsOn, MovesPast, SeesHead, ahead, ahead_to, left_to_stop, is_done, spent_by}
use Rattle.sk_match.specs.declared.open_search.Search.{Search}
use Rattle.sk_flight.specs.Kept.{Flies, open_as}

-- ---- what a query scores, as ids and weights

module _ (query : Tree) (scheme : Scheme) (order : Order) where
  abbrev rank_with : ℕ × Document → ℕ → Rank
  rank_with one w = record { weight = w; value = value_for order one.1; id = one.0 }

  abbrev pair_of : Rank → ℕ × ℕ
  pair_of r = (r.id, r.weight)

  -- they are the matches
  pub scored_are : (docs : Docs) → scored query scheme 1 docs ≡ map pair_of (matches query scheme order docs)
  scored_are [] = refl
  scored_are (d ∷ docs) = step (score query scheme 1 d.1) (scored_are docs)
    where
      step : (o : Option ℕ) → scored query scheme 1 docs ≡ map pair_of (matches query scheme order docs)
          → cons_option (option_map (λ w. (d.0, w)) o) (scored query scheme 1 docs) ≡ map pair_of (cons_option (option_map (rank_with d) o) (matches query scheme order docs))
      step None more = more
      step (Some w) more = ap (λ xs. (d.0, w) ∷ xs) more

  -- and as many of them stand up to an id
  pub scored_to : (stop : ℕ) (docs : Docs)
      → length (filter (λ p. nat_le p.0 stop) (scored query scheme 1 docs)) ≡ length (filter (λ rank. nat_le rank.id stop) (matches query scheme order docs))
  scored_to stop docs = ap (λ ps. length (filter (λ (p : ℕ × ℕ). nat_le p.0 stop) ps)) (scored_are docs) ∙ same (matches query scheme order docs)
    where
      kept : (r : Rank) (rs : List Rank) (b : Bool) → length (filter (λ (p : ℕ × ℕ). nat_le p.0 stop) (map pair_of rs)) ≡ length (filter (λ (rank : Rank). nat_le rank.id stop) rs)
          → length (cond b (pair_of r ∷ filter (λ (p : ℕ × ℕ). nat_le p.0 stop) (map pair_of rs)) (filter (λ (p : ℕ × ℕ). nat_le p.0 stop) (map pair_of rs)))
          ≡ length (cond b (r ∷ filter (λ (rank : Rank). nat_le rank.id stop) rs) (filter (λ (rank : Rank). nat_le rank.id stop) rs))
      kept r rs true more = ap suc more
      kept r rs false more = more

      same : (rs : List Rank) → length (filter (λ (p : ℕ × ℕ). nat_le p.0 stop) (map pair_of rs)) ≡ length (filter (λ (rank : Rank). nat_le rank.id stop) rs)
      same [] = refl
      same (r ∷ rs) = kept r rs (nat_le r.id stop) (same rs)

  -- no more match than there are
  few_match : (docs : Docs) → length (matches query scheme order docs) ≤ length docs
  few_match [] = omega arith
  few_match (d ∷ docs) = step (rank_of query scheme order d) (few_match docs)
    where
      step : (o : Option Rank) → length (matches query scheme order docs) ≤ length docs → length (cons_option o (matches query scheme order docs)) ≤ suc (length docs)
      step None le = omega (arith, le)
      step (Some r) le = omega (arith, le)

-- ---- what `spent` tells of a search

module _ (search : Search) (told : ℕ) (is : told ≡ min (2 ^ 128 - 1) (spent_by search)) (apart : told ≡ 2 ^ 128 - 1 → ⊥) where
  -- below the greatest number that it can tell
  pub told_whole : spent_by search < 2 ^ 128 - 1
  told_whole = by_size (nat_lt (spent_by search) (2 ^ 128 - 1)) refl
    where
      by_size : (b : Bool) → nat_lt (spent_by search) (2 ^ 128 - 1) ≡ b → spent_by search < 2 ^ 128 - 1
      by_size true e = ltb-true (spent_by search) (2 ^ 128 - 1) e
      by_size false e = let far = ltb-false (spent_by search) (2 ^ 128 - 1) e in absurd (apart (omega (arith, is, far)))

  told_same : told ≡ spent_by search
  told_same = let whole = told_whole in omega (arith, is, whole)

  -- what it may have read
  pub may_read : (revision : Indexed) (paging : Paging) (query : Tree) (turns : ℕ) (done : Bool)
      → ((i : Indexed) (paging : Paging) (query : Tree) (hits : ℕ) → Stands search i paging query → told ≤ sharp query paging i.live.documents hits)
      → ((i : Indexed) (paging : Paging) (query : Tree) (lists : List (List ℕ)) → Stands search i paging query → IsEarly paging search.page.seen → flat_lists query i.live.documents ≡ Some lists
      → told ≤ ups_seen lists paging query i search)
      → Stands search revision paging query → (paging.options.cutoff ≡ 0 → search.page.seen ≡ turns)
      → MayHaveRead (open_as search revision paging query turns done)
  may_read revision paging query turns done within paced stands even = record {
    within = λ hits. subst (λ n. n ≤ sharp query paging revision.live.documents hits) told_same (within revision paging query hits stands);
    paced = λ early lists flat.
        let seen = even early.1 in
        let more = early.2 in
        subst (λ n. spent_by search ≤ ups lists (reached_by n (found_by query paging revision.live.documents)) revision.live.documents) seen
        (subst (λ n. n ≤ ups_seen lists paging query revision search) told_same (paced revision paging query lists stands (early.0, early.1, omega (arith, seen, more)) flat));
  }

-- ---- from its opening on

module _ (search : Search) (revision : Indexed) (paging : Paging) (query : Tree) where
  abbrev docs : Docs
  docs = revision.live.documents

  pub few_turns : (turns : ℕ) (done : Bool) → Flies search revision paging query turns done → turns < 2 ^ 32
  few_turns turns done is =
      let within = few_match query paging.options.scheme paging.order docs in
      let small = length_fits docs is.stands.built.tree.documents in
      let few = is.few in
      omega (arith, within, small, few)

  pub is_on : (turns : ℕ) (done : Bool) → Flies search revision paging query turns done → IsOn search revision
  is_on turns done is = (paging, query, is.stands)

  pub begins : Stands search revision paging query → ahead revision search ≡ scored query paging.options.scheme 1 docs → search.page.seen ≡ 0 → spent_by search < 2 ^ 128 - 1
      → MayHaveRead (open_as search revision paging query 0 false) → Flies search revision paging query 0 false
  begins stands all none exact read =
      let same : length (ahead revision search) ≡ length (matches query paging.options.scheme paging.order docs) =
      ap length all ∙ ap length (scored_are query paging.options.scheme paging.order docs) ∙ length-map (matches query paging.options.scheme paging.order docs) _ in
      let stop = stop_point query paging docs in
      let same_to : left_to_stop paging query revision search ≡ length (filter (λ (rank : Rank). nat_le rank.id stop) (matches query paging.options.scheme paging.order docs)) =
      ap (λ ps. length (filter (λ (p : ℕ × ℕ). nat_le p.0 stop) ps)) all ∙ scored_to query paging.options.scheme paging.order stop docs in
      record {
        stands = stands;
        counted = omega (arith, none);
        even = λ _. none;
        few = omega (arith, same);
        early = λ _. omega (arith, same_to);
        ended = λ e. absurd (true≢false (sym e));
        exact = exact;
        may = record {
          turned = record { few = omega arith; early = λ _. omega arith; enough = λ e. absurd (true≢false (sym e)) };
          read = read;
        };
      }

  -- ---- a turn
  module _ (new : Search) (turns : ℕ) (done : Bool) (is : Flies search revision paging query turns done) where
    counted_by : MovesPast revision search new → new.page.seen ≤ search.page.seen + 1
    counted_by past = by past.sees
      where
        by : SeesHead revision past.head (first_weight (ahead revision search)) search new → new.page.seen ≤ search.page.seen + 1
        by (inl sees) = let one = sees.1.seen in omega (arith, one)
        by (inr low) = let same : new.page.seen ≡ search.page.seen = ap (λ (p : Page). p.seen) low.1 in omega (arith, same)

    seen_by : MovesPast revision search new → paging.options.cutoff ≡ 0 → new.page.seen ≡ search.page.seen + 1
    seen_by past none = by past.sees
      where
        by : SeesHead revision past.head (first_weight (ahead revision search)) search new → new.page.seen ≡ search.page.seen + 1
        by (inl sees) = sees.1.seen
        by (inr low) =
            let cutoff : search.page.options.cutoff ≡ 0 = ap (λ (o : Options). o.cutoff) is.stands.page.options ∙ none in
            let less = low.0 in
            absurd (omega (arith, less, cutoff))

    -- of one that moved on
    pub even_on : MovesPast revision search new → paging.options.cutoff ≡ 0 → new.page.seen ≡ turns + 1
    even_on past none = let one = seen_by past none in let before = is.even none in omega (arith, one, before)

    pub moved : Stands new revision paging query → spent_by new < 2 ^ 128 - 1 → MovesPast revision search new → length (ahead revision new) < length (ahead revision search)
        → (is_plain paging ≡ true → left_to_stop paging query revision new < left_to_stop paging query revision search)
        → MayHaveRead (open_as new revision paging query (turns + 1) false)
        → Flies new revision paging query (turns + 1) false
    moved stands exact past fewer early read =
        let few = is.few in
        record {
          stands = stands;
          counted = let counted = is.counted in let one = counted_by past in omega (arith, counted, one);
          even = even_on past;
          few = omega (arith, few, fewer);
          early = λ plain. let few = is.early plain in let less = early plain in omega (arith, few, less);
          ended = λ e. absurd (true≢false (sym e));
          exact = exact;
          may = record {
            turned = record {
              few = omega (arith, few, fewer);
              early = λ plain. let few = is.early plain in let less = early plain in omega (arith, few, less);
              enough = λ e. absurd (true≢false (sym e));
            };
            read = read;
          };
        }

    -- and of one that was done
    pub stayed : new ≡ search → is_done revision search ≡ true → min (wanted paging) (length (found_by query paging docs)) ≤ search.page.seen → Flies new revision paging query turns true
    stayed same ended enough = subst (λ (s : Search). Flies s revision paging query turns true) (sym same) (record {
      stands = is.stands;
      counted = is.counted;
      even = is.even;
      few = is.few;
      early = is.early;
      ended = λ _. ended;
      exact = is.exact;
      may = record {
        turned = record {
          few = is.may.turned.few;
          early = is.may.turned.early;
          enough = λ _. let counted = is.counted in omega (arith, enough, counted);
        };
        read = record { within = is.may.read.within; paced = is.may.read.paced };
      };
    })
