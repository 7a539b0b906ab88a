-- A search that goes on, and one that ends.
use Rattle.std.proofs.Common.{◌≡◌, ◌≤◌, ◌<◌, ◌+◌, ◌⊎◌, ℕ, suc, Bool, true, false, cond, nat_le, List, [], ◌∷◌, ◌++◌, length, take, Option, None, Some, option_map, is_some, unwrap_or, refl, sym, ap, ◌∙◌, subst, arith, inl, inr, true≢false, append_assoc, append-nil}
use Rattle.std.specs.List.{AllByRecursion, filter_map, cons_option}
use Rattle.std.proofs.lemmas.Bool.Decides.{nat_tests}
use Rattle.std.proofs.lemmas.List.{take-append-le}
use Rattle.std.proofs.lemmas.List.Elements.{filter_map-append, filter-append}
use Rattle.std.proofs.lemmas.Bool.{le-leb, leb-false, leb-true}
use Rattle.sk_model.proofs.HeldLaws.{each_weaker}
use Rattle.sk_base.specs.declared.find.Paging.{Paging}
use Rattle.sk_base.specs.declared.rank.Rank.{Rank}
use Rattle.sk_base.specs.Numbers.{Docs}
use Rattle.sk_sorted.specs.Entries.{RiseAbove, first_id}
use Rattle.sk_query.specs.Trees.{Tree}
use Rattle.sk_model.specs.Covers.{CoversAt}
use Rattle.sk_model.specs.Counts.{wanted}
use Rattle.sk_model.specs.Documents.{Document}
use Rattle.sk_model.specs.Matches.{value_for, rank_of, matches, at_least, found_by}
use Rattle.sk_model.specs.Scores.{score}
use Rattle.sk_model.proofs.CoverLaws.{covers_then}
use Rattle.sk_page.specs.Shown.{is_behind_page, Shown}
use Rattle.sk_page.specs.Walks.{held_by, IsFull, IsBehindPage, IsNeed, Walk, HasEnded}
use Rattle.sk_page.proofs.ShownLaws.{shown_same, shown_append, shown_weaker, shown_beside}

-- ---- tests and lists

none_some : {X : Type 0} (o : Option X) (x : X) → o ≡ None → o ≡ Some x → ⊥
none_some o x none e = true≢false (sym (ap is_some (sym none ∙ e)))

pub all_append : {X : Type 0} (P : X → Type 0) (xs ys : List X) → AllByRecursion P xs → AllByRecursion P ys → AllByRecursion P (xs ++ ys)
all_append P [] ys h g = g
all_append P (x ∷ xs) ys h g = (h.0, all_append P xs ys h.1 g)

-- ---- ids and weights that are given

abbrev pub weighed : (ℕ → Option ℕ) → Docs → List (ℕ × ℕ)
weighed give docs = filter_map (λ one. option_map (λ w. (one.0, w)) (give one.0)) docs

abbrev pub first_weight : List (ℕ × ℕ) → ℕ
first_weight [] = 0
first_weight (p ∷ ps) = p.1

-- nothing is given before
pub weighed_behind : (give : ℕ → Option ℕ) (before rest : Docs) → AllByRecursion (λ (one : ℕ × Document). give one.0 ≡ None) before → weighed give (before ++ rest) ≡ weighed give rest
weighed_behind give [] rest quiet = refl
weighed_behind give (one ∷ before) rest quiet =
    ap (λ o. cons_option (option_map (λ w. (one.0, w)) o) (weighed give (before ++ rest))) quiet.0 ∙ weighed_behind give before rest quiet.1

-- the documents up to the first that is given
pub record AtHead (give : ℕ → Option ℕ) (last head weight : ℕ) (rest : Docs) : Type 0 where
  pub skipped : Docs
  pub one : ℕ × Document
  pub later : Docs
  pub is : rest ≡ skipped ++ one ∷ later
  pub id : one.0 ≡ head
  pub gives : give one.0 ≡ Some weight
  pub quiet : AllByRecursion (λ (d : ℕ × Document). give d.0 ≡ None) skipped
  pub above : AllByRecursion (λ (d : ℕ × Document). last < d.0) skipped
  pub low : AllByRecursion (λ (d : ℕ × Document). d.0 < head) skipped
  pub higher : last < head
  pub rises : RiseAbove head later

here : (give : ℕ → Option ℕ) (last head weight : ℕ) (d : ℕ × Document) (more : Docs) → RiseAbove last (d ∷ more) → d.0 ≡ head → give d.0 ≡ Some weight → AtHead give last head weight (d ∷ more)
here give last head weight d more up id is = record {
  skipped = [];
  one = d;
  later = more;
  is = refl;
  id = id;
  gives = is;
  quiet = tt;
  above = tt;
  low = tt;
  higher = omega (arith, up.0, id);
  rises = subst (λ n. RiseAbove n more) id up.1;
}

behind : (give : ℕ → Option ℕ) (last head weight : ℕ) (d : ℕ × Document) (more : Docs) → RiseAbove last (d ∷ more) → give d.0 ≡ None → AtHead give d.0 head weight more → AtHead give last head weight (d ∷ more)
behind give last head weight d more up none h = record {
  skipped = d ∷ h.skipped;
  one = h.one;
  later = h.later;
  is = ap (λ ds. d ∷ ds) h.is;
  id = h.id;
  gives = h.gives;
  quiet = (none, h.quiet);
  above = (up.0, each_weaker (λ (e : ℕ × Document). d.0 < e.0) (λ (e : ℕ × Document). last < e.0) (λ e l. omega (arith, l, up.0)) h.skipped h.above);
  low = (h.higher, h.low);
  higher = omega (arith, up.0, h.higher);
  rises = h.rises;
}

some_is : (a b : ℕ) → Some a ≡ Some b → a ≡ b
some_is a b e = ap (λ o. unwrap_or o 0) e

at_step : (give : ℕ → Option ℕ) (last head : ℕ) (d : ℕ × Document) (more : Docs) (o : Option ℕ) → give d.0 ≡ o → RiseAbove last (d ∷ more)
    → first_id (cons_option (option_map (λ w. (d.0, w)) o) (weighed give more)) ≡ Some head
    → (first_id (weighed give more) ≡ Some head → AtHead give d.0 head (first_weight (weighed give more)) more)
    → AtHead give last head (first_weight (cons_option (option_map (λ w. (d.0, w)) o) (weighed give more))) (d ∷ more)
at_step give last head d more None e up h later = behind give last head (first_weight (weighed give more)) d more up e (later h)
at_step give last head d more (Some w) e up h later = here give last head w d more up (some_is d.0 head h) e

pub at_head : (give : ℕ → Option ℕ) (last head : ℕ) (rest : Docs) → RiseAbove last rest → first_id (weighed give rest) ≡ Some head → AtHead give last head (first_weight (weighed give rest)) rest
at_head give last head [] up h = absurd (none_some None head refl h)
at_head give last head (d ∷ more) up h = at_step give last head d more (give d.0) refl up h (at_head give d.0 head more up.1)

-- no head: nothing is given
quiet_step : (give : ℕ → Option ℕ) (d : ℕ × Document) (more : Docs) (o : Option ℕ) → give d.0 ≡ o → cons_option (option_map (λ w. (d.0, w)) o) (weighed give more) ≡ []
    → (weighed give more ≡ [] → AllByRecursion (λ (e : ℕ × Document). give e.0 ≡ None) more) → AllByRecursion (λ (e : ℕ × Document). give e.0 ≡ None) (d ∷ more)
quiet_step give d more None e none later = (e, later none)
quiet_step give d more (Some w) e none later = let long : suc (length (weighed give more)) ≡ 0 = ap length none in absurd (omega (arith, long))

pub all_quiet : (give : ℕ → Option ℕ) (rest : Docs) → weighed give rest ≡ [] → AllByRecursion (λ (d : ℕ × Document). give d.0 ≡ None) rest
all_quiet give [] none = tt
all_quiet give (d ∷ more) none = quiet_step give d more (give d.0) refl none (all_quiet give more)

-- ---- matches among documents

module _ (query : Tree) (paging : Paging) where
  abbrev cutoff : ℕ
  cutoff = paging.options.cutoff

  abbrev pub scores : ℕ × Document → Option ℕ
  scores one = score query paging.options.scheme 1 one.1

  abbrev pub ranked : ℕ × Document → ℕ → Rank
  ranked one w = record { weight = w; value = value_for paging.order one.1; id = one.0 }

  -- a document with what it scores, where it is no less than the cutoff
  abbrev pub taken : ℕ × Document → Option ℕ → List Rank
  taken one None = []
  taken one (Some w) = cond (nat_le cutoff w) (ranked one w ∷ []) []

  pub found_append : (xs ys : Docs) → found_by query paging (xs ++ ys) ≡ found_by query paging xs ++ found_by query paging ys
  found_append xs ys =
      ap (at_least cutoff) (filter_map-append (rank_of query paging.options.scheme paging.order) xs ys)
      ∙ filter-append (λ (r : Rank). nat_le cutoff r.weight) (matches query paging.options.scheme paging.order xs) (matches query paging.options.scheme paging.order ys)

  onto : (b : Bool) (r : Rank) (rs : List Rank) → cond b (r ∷ rs) rs ≡ cond b (r ∷ []) [] ++ rs
  onto true r rs = refl
  onto false r rs = refl

  pub found_step : (one : ℕ × Document) (more : Docs) (o : Option ℕ) → scores one ≡ o → found_by query paging (one ∷ more) ≡ taken one o ++ found_by query paging more
  found_step one more None e = ap (λ o. at_least cutoff (cons_option (option_map (ranked one) o) (matches query paging.options.scheme paging.order more))) e
  found_step one more (Some w) e =
      ap (λ o. at_least cutoff (cons_option (option_map (ranked one) o) (matches query paging.options.scheme paging.order more))) e
      ∙ onto (nat_le cutoff w) (ranked one w) (found_by query paging more)

  found_one : (one : ℕ × Document) (o : Option ℕ) → scores one ≡ o → found_by query paging (one ∷ []) ≡ taken one o
  found_one one o e = found_step one [] o e ∙ append-nil (taken one o)

  -- ---- documents that are passed over

  module _ (is : Rank → Bool) where
    abbrev PassesBelow : ℕ → ℕ → Type 0
    PassesBelow last need = (r : Rank) → r.weight < need → cutoff ≤ r.weight → last < r.id → is r ≡ true

    taken_passed : (one : ℕ × Document) (o : Option ℕ) (last need : ℕ) → PassesBelow last need → last < one.0 → CoversAt o None need → Shown is (taken one o) []
    taken_passed one None last need pass above covers = refl
    taken_passed one (Some w) last need pass above covers =
        elim (nat_le cutoff w) as (λ b. nat_le cutoff w ≡ b → Shown is (cond b (ranked one w ∷ []) []) []) [
          | true ↦ λ e. inl (pass (ranked one w) covers (leb-true cutoff w e) above, refl)
          | false ↦ λ e. refl
        ] refl

    pub passed : (give : ℕ → Option ℕ) (last need : ℕ) (docs : Docs) → PassesBelow last need → AllByRecursion (λ (d : ℕ × Document). last < d.0) docs
        → AllByRecursion (λ (d : ℕ × Document). give d.0 ≡ None) docs → AllByRecursion (λ (d : ℕ × Document). CoversAt (scores d) (give d.0) need) docs
        → Shown is (found_by query paging docs) []
    passed give last need [] pass above quiet covers = refl
    passed give last need (d ∷ docs) pass above quiet covers =
        subst (λ rs. Shown is rs []) (sym (found_step d docs (scores d) refl))
        (shown_append is (taken d (scores d)) [] (found_by query paging docs) []
        (taken_passed d (scores d) last need pass above.0 (subst (λ o. CoversAt (scores d) o need) quiet.0 covers.0))
        (passed give last need docs pass above.1 quiet.1 covers.1))

    -- ---- the document at the head

    -- what a search takes of it
    abbrev offered : ℕ × Document → ℕ → List Rank
    offered one w = taken one (Some w)

    lighter : (one : ℕ × Document) (v w last need : ℕ) → PassesBelow last need → last < one.0 → v < need → w ≤ v → Shown is (taken one (Some v)) (offered one w)
    lighter one v w last need pass above less low =
        elim (nat_le cutoff v) as (λ b. nat_le cutoff v ≡ b → Shown is (cond b (ranked one v ∷ []) []) (offered one w)) [
          | true ↦ λ e.
              elim (nat_le cutoff w) as (λ c. nat_le cutoff w ≡ c → Shown is (ranked one v ∷ []) (cond c (ranked one w ∷ []) [])) [
                | true ↦ λ f. inr (ranked one w, [], refl, refl, inr (pass (ranked one v) less (leb-true cutoff v e) above, pass (ranked one w) (omega (arith, less, low)) (leb-true cutoff w f) above), refl)
                | false ↦ λ f. inl (pass (ranked one v) less (leb-true cutoff v e) above, refl)
              ] refl
          | false ↦ λ e. subst (λ c. cond c (ranked one w ∷ []) [] ≡ []) (sym (too_light w v e low)) refl
        ] refl
      where
        too_light : (w v : ℕ) → nat_le cutoff v ≡ false → w ≤ v → nat_le cutoff w ≡ false
        too_light w v e l = grind (arith, nat_tests)

    split_need : (v need : ℕ) → (need ≤ v) ⊎ (v < need)
    split_need v need =
        elim (nat_le need v) as (λ b. nat_le need v ≡ b → (need ≤ v) ⊎ (v < need)) [
          | true ↦ λ e. inl (leb-true need v e)
          | false ↦ λ e. inr (leb-false need v e)
        ] refl

    met_by : (one : ℕ × Document) (v w last need : ℕ) → PassesBelow last need → last < one.0 → CoversAt (Some v) (Some w) need → (need ≤ v) ⊎ (v < need) → Shown is (taken one (Some v)) (offered one w)
    met_by one v w last need pass above covers (inl heavy) = subst (λ u. Shown is (taken one (Some v)) (taken one (Some u))) (sym (covers.1 heavy)) (shown_same is (taken one (Some v)))
    met_by one v w last need pass above covers (inr light) = lighter one v w last need pass above light covers.0

    pub met : (one : ℕ × Document) (o : Option ℕ) (w last need : ℕ) → PassesBelow last need → last < one.0 → CoversAt o (Some w) need → Shown is (taken one o) (offered one w)
    met one None w last need pass above covers = absurd covers
    met one (Some v) w last need pass above covers = met_by one v w last need pass above covers (split_need v need)

  -- ---- where no match is passed over

  no_need : (is : Rank → Bool) (last need : ℕ) → need ≤ cutoff → (r : Rank) → r.weight < need → cutoff ≤ r.weight → last < r.id → is r ≡ true
  no_need is last need low r less most above = absurd (omega (arith, low, less, most))

  nothing_shown : (xs ys : List Rank) → Shown (λ _. false) xs ys → xs ≡ ys
  nothing_shown [] ys h = sym h
  nothing_shown (x ∷ xs) ys (inl h) = absurd (true≢false (sym h.0))
  nothing_shown (x ∷ xs) ys (inr h) = same_first x h.0 xs h.1 h.4 (nothing_shown xs h.1 h.5) ∙ sym h.2
    where
      same_first : (x s : Rank) (xs ys : List Rank) → (s ≡ x) ⊎ ((false ≡ true) × (false ≡ true)) → xs ≡ ys → x ∷ xs ≡ s ∷ ys
      same_first x s xs ys (inl e) f = ap (λ zs. x ∷ zs) f ∙ ap (λ z. z ∷ ys) (sym e)
      same_first x s xs ys (inr e) f = absurd (true≢false (sym e.0))

-- ---- a search at its start, as it goes on, and at its end

module _ (query : Tree) (paging : Paging) (docs : Docs) where
  abbrev covered : (ℕ → Option ℕ) → ℕ → ℕ × Document → Type 0
  covered give need one = CoversAt (scores query paging one) (give one.0) need

  pub started : (give : ℕ → Option ℕ) → RiseAbove 0 docs → AllByRecursion (λ (one : ℕ × Document). give one.0 ≡ scores query paging one) docs → Walk query paging docs give 0 []
  started give up same = record {
    last = 0;
    before = [];
    rest = docs;
    split = refl;
    shown = refl;
    first = refl;
    exact = λ _. refl;
    few = λ _. omega arith;
    quiet = tt;
    low = tt;
    under = tt;
    rises = up;
    covers = each_weaker (λ (one : ℕ × Document). give one.0 ≡ scores query paging one) (covered give 0) (λ one e. subst (λ o. CoversAt (scores query paging one) o 0) (sym e) (itself (scores query paging one))) docs same;
    right = inl (omega arith);
  }
    where
      itself : (o : Option ℕ) → CoversAt o o 0
      itself None = tt
      itself (Some w) = (omega arith, λ _. refl)

  module _ (give : ℕ → Option ℕ) (need : ℕ) (seen : List Rank) (walk : Walk query paging docs give need seen) where
    -- below the need nothing that is a match enters the page
    passes : IsFull paging docs seen × ((r : Rank) → r.weight < need → walk.last < r.id → IsBehindPage paging docs seen r) → (r : Rank) → r.weight < need → paging.options.cutoff ≤ r.weight → walk.last < r.id → IsBehindPage paging docs seen r
    passes full r less most above = full.1 r less above

    -- the documents up to the head
    pub the_head : (head : ℕ) → first_id (weighed give docs) ≡ Some head → AtHead give walk.last head (first_weight (weighed give walk.rest)) walk.rest
    the_head head is = at_head give walk.last head walk.rest walk.rises (ap first_id (sym (ap (weighed give) walk.split ∙ weighed_behind give walk.before walk.rest walk.quiet)) ∙ is)

    module _ (head weight : ℕ) (at : AtHead give walk.last head weight walk.rest) where
      abbrev more : List Rank
      more = taken query paging at.one (Some weight)

      abbrev up_to : Docs
      up_to = (walk.before ++ at.skipped) ++ at.one ∷ []

      covers_rest : AllByRecursion (covered give need) (at.skipped ++ at.one ∷ at.later)
      covers_rest = subst (AllByRecursion (covered give need)) at.is walk.covers

      covers_skipped : (xs ys : Docs) → AllByRecursion (covered give need) (xs ++ ys) → AllByRecursion (covered give need) xs × AllByRecursion (covered give need) ys
      covers_skipped [] ys h = (tt, h)
      covers_skipped (x ∷ xs) ys h = let rest = covers_skipped xs ys h.1 in ((h.0, rest.0), rest.1)

      found_up_to : found_by query paging up_to ≡ found_by query paging walk.before ++ (found_by query paging at.skipped ++ taken query paging at.one (scores query paging at.one))
      found_up_to =
          found_append query paging (walk.before ++ at.skipped) (at.one ∷ [])
          ∙ ap (λ rs. rs ++ found_by query paging (at.one ∷ [])) (found_append query paging walk.before at.skipped)
          ∙ append_assoc (found_by query paging walk.before) (found_by query paging at.skipped) (found_by query paging (at.one ∷ []))
          ∙ ap (λ rs. found_by query paging walk.before ++ (found_by query paging at.skipped ++ rs)) (found_one query paging at.one (scores query paging at.one) refl)

      -- what stands between, under any test that what is passed over meets
      between : (is : Rank → Bool) → ((r : Rank) → r.weight < need → paging.options.cutoff ≤ r.weight → walk.last < r.id → is r ≡ true)
          → Shown is (found_by query paging at.skipped ++ taken query paging at.one (scores query paging at.one)) more
      between is pass =
          let both = covers_skipped at.skipped (at.one ∷ at.later) covers_rest in
          shown_append is (found_by query paging at.skipped) [] (taken query paging at.one (scores query paging at.one)) more
          (passed query paging is give walk.last need at.skipped pass at.above at.quiet both.0)
          (met query paging is at.one (scores query paging at.one) weight walk.last need pass (omega (arith, at.higher, at.id)) (subst (λ o. CoversAt (scores query paging at.one) o need) at.gives both.1.0))

      -- where all is asked for, all is seen as it is
      seen_exactly : need ≤ paging.options.cutoff → found_by query paging up_to ≡ seen ++ more
      seen_exactly low =
          found_up_to
          ∙ ap (λ rs. rs ++ (found_by query paging at.skipped ++ taken query paging at.one (scores query paging at.one))) (walk.exact low)
          ∙ ap (λ rs. seen ++ rs) (nothing_shown query paging (found_by query paging at.skipped ++ taken query paging at.one (scores query paging at.one)) more (between (λ _. false) (no_need query paging (λ _. false) walk.last need low)))

      shown_on : (is : Rank → Bool) → IsNeed paging docs seen walk.last need → (IsFull paging docs seen → (r : Rank) → IsBehindPage paging docs seen r → is r ≡ true) → Shown is (found_by query paging up_to) (seen ++ more)
      shown_on is (inl low) keeps = subst (λ rs. Shown is rs (seen ++ more)) (sym (seen_exactly low)) (shown_same is (seen ++ more))
      shown_on is (inr full) keeps =
          subst (λ rs. Shown is rs (seen ++ more)) (sym found_up_to)
          (shown_append is (found_by query paging walk.before) seen (found_by query paging at.skipped ++ taken query paging at.one (scores query paging at.one)) more
          (shown_weaker (is_behind_page paging.order (held_by paging docs seen)) is (keeps full.0) (found_by query paging walk.before) seen walk.shown)
          (between is (λ r less most above. keeps full.0 r (full.1 r less above))))

      enough : (length seen < wanted paging) ⊎ (wanted paging ≤ length seen)
      enough = either (wanted paging) (length seen)
        where
          either : (n m : ℕ) → (m < n) ⊎ (n ≤ m)
          either n m =
              elim (nat_le n m) as (λ b. nat_le n m ≡ b → (m < n) ⊎ (n ≤ m)) [
                | true ↦ λ e. inr (leb-true n m e)
                | false ↦ λ e. inl (leb-false n m e)
              ] refl

      first_on : (length seen < wanted paging) ⊎ (wanted paging ≤ length seen) → take (wanted paging) (found_by query paging up_to) ≡ take (wanted paging) (seen ++ more)
      first_on (inl few) = ap (take (wanted paging)) (seen_exactly (walk.few few))
      first_on (inr many) =
          let long = (shown_beside (is_behind_page paging.order (held_by paging docs seen)) (λ _. []) (λ _ _ _. refl) (found_by query paging walk.before) seen walk.shown).long in
          ap (take (wanted paging)) found_up_to
          ∙ take-append-le (wanted paging) (found_by query paging walk.before) (found_by query paging at.skipped ++ taken query paging at.one (scores query paging at.one)) (omega (arith, many, long))
          ∙ walk.first
          ∙ sym (take-append-le (wanted paging) seen more many)

      splits : docs ≡ up_to ++ at.later
      splits =
          walk.split
          ∙ ap (λ ds. walk.before ++ ds) at.is
          ∙ sym (append_assoc walk.before at.skipped (at.one ∷ at.later))
          ∙ sym (append_assoc (walk.before ++ at.skipped) (at.one ∷ []) at.later)

      -- from the head on nothing is given up to it, and what is behind it is covered
      module _ (give2 : ℕ → Option ℕ) (need2 : ℕ) (over : AllByRecursion (λ (d : ℕ × Document). CoversAt (cond (nat_le (head + 1) d.0) (give d.0) None) (give2 d.0) need2) docs) where
        abbrev over_at : ℕ × Document → Type 0
        over_at d = CoversAt (cond (nat_le (head + 1) d.0) (give d.0) None) (give2 d.0) need2

        parts : (xs ys : Docs) → AllByRecursion over_at (xs ++ ys) → AllByRecursion over_at xs × AllByRecursion over_at ys
        parts [] ys h = (tt, h)
        parts (x ∷ xs) ys h = let rest = parts xs ys h.1 in ((h.0, rest.0), rest.1)

        over_both : AllByRecursion over_at up_to × AllByRecursion over_at at.later
        over_both = parts up_to at.later (subst (AllByRecursion over_at) splits over)

        none_given : (id : ℕ) → id ≤ head → CoversAt (cond (nat_le (head + 1) id) (give id) None) (give2 id) need2 → give2 id ≡ None
        none_given id low here = none_left (give2 id) (subst (λ (b : Bool). CoversAt (cond b (give id) None) (give2 id) need2) (below id low) here)
          where
            none_left : (o : Option ℕ) → CoversAt None o need2 → o ≡ None
            none_left None h = refl
            none_left (Some w) h = absurd h

            below : (id : ℕ) → id ≤ head → nat_le (head + 1) id ≡ false
            below id low = grind (arith, nat_tests)

        quiet_at : (ds : Docs) → AllByRecursion (λ (d : ℕ × Document). d.0 ≤ head) ds → AllByRecursion over_at ds → AllByRecursion (λ (d : ℕ × Document). give2 d.0 ≡ None) ds
        quiet_at [] low here = tt
        quiet_at (d ∷ ds) low here = (none_given d.0 low.0 here.0, quiet_at ds low.1 here.1)

        covers_later : (low : ℕ) (ds : Docs) → head ≤ low → need ≤ need2 → RiseAbove low ds → AllByRecursion (covered give need) ds → AllByRecursion over_at ds → AllByRecursion (covered give2 need2) ds
        covers_later low [] from rise up h here = tt
        covers_later low (d ∷ ds) from rise up h here = (
          covers_then (scores query paging d) (give d.0) (give2 d.0) need need2 rise h.0 (subst (λ (b : Bool). CoversAt (cond b (give d.0) None) (give2 d.0) need2) (le-leb (head + 1) d.0 (omega (arith, from, up.0))) here.0),
          covers_later d.0 ds (omega (arith, from, up.0)) rise up.1 h.1 here.1,
        )

        lows : AllByRecursion (λ (d : ℕ × Document). d.0 ≤ head) up_to
        lows =
            all_append (λ (d : ℕ × Document). d.0 ≤ head) (walk.before ++ at.skipped) (at.one ∷ [])
            (all_append (λ (d : ℕ × Document). d.0 ≤ head) walk.before at.skipped
            (each_weaker (λ (d : ℕ × Document). d.0 ≤ walk.last) (λ (d : ℕ × Document). d.0 ≤ head) (λ d l. omega (arith, l, at.higher)) walk.before walk.low)
            (each_weaker (λ (d : ℕ × Document). d.0 < head) (λ (d : ℕ × Document). d.0 ≤ head) (λ d l. omega (arith, l)) at.skipped at.low))
            (omega (arith, at.id), tt)

        under_more : (b : Bool) → AllByRecursion (λ (s : Rank). s.id ≤ head) (cond b (ranked query paging at.one weight ∷ []) [])
        under_more true = (omega (arith, at.id), tt)
        under_more false = tt

        walked_here : need ≤ need2
            → (IsFull paging docs seen → (r : Rank) → IsBehindPage paging docs seen r → IsBehindPage paging docs (seen ++ more) r)
            → (length (seen ++ more) < wanted paging → need2 ≤ paging.options.cutoff)
            → IsNeed paging docs (seen ++ more) head need2
            → Walk query paging docs give2 need2 (seen ++ more)
        walked_here rise keeps few right = record {
          last = head;
          before = up_to;
          rest = at.later;
          split = splits;
          shown = shown_on (is_behind_page paging.order (held_by paging docs (seen ++ more))) walk.right keeps;
          first = first_on enough;
          exact = λ low. seen_exactly (omega (arith, low, rise));
          few = few;
          quiet = quiet_at up_to lows over_both.0;
          low = lows;
          under =
              all_append (λ (s : Rank). s.id ≤ head) seen more
              (each_weaker (λ (s : Rank). s.id ≤ walk.last) (λ (s : Rank). s.id ≤ head) (λ s l. omega (arith, l, at.higher)) seen walk.under)
              (under_more (nat_le paging.options.cutoff weight));
          rises = at.rises;
          covers = covers_later head at.later (omega arith) rise at.rises (covers_skipped at.skipped (at.one ∷ at.later) covers_rest).1.1 over_both.1;
          right = right;
        }

        -- it saw these, and stands at the head
        pub walked : (saw : List Rank) → seen ++ more ≡ saw → need ≤ need2
            → (IsFull paging docs seen → (r : Rank) → IsBehindPage paging docs seen r → IsBehindPage paging docs saw r)
            → (length saw < wanted paging → need2 ≤ paging.options.cutoff)
            → IsNeed paging docs saw head need2
            → (walk2 : Walk query paging docs give2 need2 saw) × (walk2.last ≡ head)
        unfolding walked_here
        walked saw is = subst (λ (all : List Rank). need ≤ need2
            → (IsFull paging docs seen → (r : Rank) → IsBehindPage paging docs seen r → IsBehindPage paging docs all r)
            → (length all < wanted paging → need2 ≤ paging.options.cutoff)
            → IsNeed paging docs all head need2
            → (walk2 : Walk query paging docs give2 need2 all) × (walk2.last ≡ head)) is (λ rise keeps few right. (walked_here rise keeps few right, refl))

    -- ---- its end

    abbrev whole : found_by query paging docs ≡ found_by query paging walk.before ++ found_by query paging walk.rest
    whole = ap (found_by query paging) walk.split ∙ found_append query paging walk.before walk.rest

    -- where what is left is passed over
    end_with : (full : (paging.options.cutoff < need) → IsFull paging docs seen)
        → Shown (is_behind_page paging.order (held_by paging docs seen)) (found_by query paging walk.rest) []
        → (need ≤ paging.options.cutoff → (found_by query paging walk.rest ≡ []) ⊎ (wanted paging ≤ length seen × IsFull paging docs seen))
        → HasEnded query paging docs seen
    end_with full rest none = ends (nat_le need paging.options.cutoff) refl
      where
        all_of : List Rank
        all_of = found_by query paging walk.before ++ found_by query paging walk.rest

        shown_all : Shown (is_behind_page paging.order (held_by paging docs seen)) (found_by query paging docs) seen
        shown_all =
            subst (λ rs. Shown (is_behind_page paging.order (held_by paging docs seen)) rs seen) (sym whole)
            (subst (Shown (is_behind_page paging.order (held_by paging docs seen)) all_of) (append-nil seen)
            (shown_append (is_behind_page paging.order (held_by paging docs seen)) (found_by query paging walk.before) seen (found_by query paging walk.rest) [] walk.shown rest))

        long_all : length seen ≤ length (found_by query paging docs)
        long_all =
            let long = (shown_beside (is_behind_page paging.order (held_by paging docs seen)) (λ _. []) (λ _ _ _. refl) (found_by query paging docs) seen shown_all).long in
            omega (arith, long)

        long_before : length seen ≤ length (found_by query paging walk.before)
        long_before =
            let long = (shown_beside (is_behind_page paging.order (held_by paging docs seen)) (λ _. []) (λ _ _ _. refl) (found_by query paging walk.before) seen walk.shown).long in
            omega (arith, long)

        first_many : wanted paging ≤ length seen → take (wanted paging) (found_by query paging docs) ≡ take (wanted paging) seen
        first_many many =
            ap (take (wanted paging)) whole
            ∙ take-append-le (wanted paging) (found_by query paging walk.before) (found_by query paging walk.rest) (omega (arith, many, long_before))
            ∙ walk.first

        all_exactly : need ≤ paging.options.cutoff → found_by query paging walk.rest ≡ [] → found_by query paging docs ≡ seen
        all_exactly low none = whole ∙ ap (λ rs. found_by query paging walk.before ++ rs) none ∙ append-nil (found_by query paging walk.before) ∙ walk.exact low

        many_of : paging.options.cutoff < need → wanted paging ≤ length seen
        many_of high =
            elim (nat_le (wanted paging) (length seen)) as (λ b. nat_le (wanted paging) (length seen) ≡ b → wanted paging ≤ length seen) [
              | true ↦ λ e. leb-true (wanted paging) (length seen) e
              | false ↦ λ e. let low = walk.few (leb-false (wanted paging) (length seen) e) in absurd (omega (arith, low, high))
            ] refl

        all_there : found_by query paging docs ≡ seen → HasEnded query paging docs seen
        all_there same = record { shown = shown_all; first = ap (take (wanted paging)) same; full = inl same; exact = λ _. same }

        some_there : wanted paging ≤ length seen → IsFull paging docs seen → HasEnded query paging docs seen
        some_there many full = record { shown = shown_all; first = first_many many; full = inr full; exact = λ few. absurd (omega (arith, few, many, long_all)) }

        either : need ≤ paging.options.cutoff → (found_by query paging walk.rest ≡ []) ⊎ (wanted paging ≤ length seen × IsFull paging docs seen) → HasEnded query paging docs seen
        either low (inl none) = all_there (all_exactly low none)
        either low (inr both) = some_there both.0 both.1

        ends : (b : Bool) → nat_le need paging.options.cutoff ≡ b → HasEnded query paging docs seen
        ends true e = let low = leb-true need paging.options.cutoff e in either low (none low)
        ends false e = let high = leb-false need paging.options.cutoff e in some_there (many_of high) (full high)

    full_of : IsNeed paging docs seen walk.last need → paging.options.cutoff < need → IsFull paging docs seen
    full_of (inl low) high = absurd (omega (arith, low, high))
    full_of (inr full) high = full.0

    passes_of : IsNeed paging docs seen walk.last need → (r : Rank) → r.weight < need → paging.options.cutoff ≤ r.weight → walk.last < r.id → is_behind_page paging.order (held_by paging docs seen) r ≡ true
    passes_of (inl low) r less most above = absurd (omega (arith, low, less, most))
    passes_of (inr full) r less most above = full.1 r less above

    above_all : (low : ℕ) (ds : Docs) → walk.last ≤ low → RiseAbove low ds → AllByRecursion (λ (d : ℕ × Document). walk.last < d.0) ds
    above_all low [] from up = tt
    above_all low (d ∷ ds) from up = (omega (arith, from, up.0), above_all d.0 ds (omega (arith, from, up.0)) up.1)

    -- nothing is given any more
    quiet_rest : weighed give docs ≡ [] → AllByRecursion (λ (d : ℕ × Document). give d.0 ≡ None) walk.rest
    quiet_rest none = all_quiet give walk.rest (sym (ap (weighed give) walk.split ∙ weighed_behind give walk.before walk.rest walk.quiet) ∙ none)

    rest_exactly : weighed give docs ≡ [] → need ≤ paging.options.cutoff → found_by query paging walk.rest ≡ []
    rest_exactly none low =
        nothing_shown query paging (found_by query paging walk.rest) []
        (passed query paging (λ _. false) give walk.last need walk.rest (no_need query paging (λ _. false) walk.last need low)
        (above_all walk.last walk.rest (omega arith) walk.rises) (quiet_rest none) walk.covers)

    pub ended_at_end : weighed give docs ≡ [] → HasEnded query paging docs seen
    ended_at_end none =
        end_with (full_of walk.right)
        (passed query paging (is_behind_page paging.order (held_by paging docs seen)) give walk.last need walk.rest (passes_of walk.right)
        (above_all walk.last walk.rest (omega arith) walk.rises) (quiet_rest none) walk.covers)
        (λ low. inl (rest_exactly none low))

    -- all was asked for, and nothing is given any more: all was seen as it is
    pub all_at_end : weighed give docs ≡ [] → need ≤ paging.options.cutoff → found_by query paging docs ≡ seen
    all_at_end none low = whole ∙ ap (λ rs. found_by query paging walk.before ++ rs) (rest_exactly none low) ∙ append-nil (found_by query paging walk.before) ∙ walk.exact low

    -- nothing that is given weighs more than the ceiling
    module _ (ceiling : ℕ) (most : (id : ℕ) → unwrap_or (give id) 0 ≤ ceiling) where
      module _ (is : Rank → Bool) (light : (r : Rank) → r.weight < need → paging.options.cutoff ≤ r.weight → walk.last < r.id → is r ≡ true)
          (under : (r : Rank) → r.weight ≤ ceiling → paging.options.cutoff ≤ r.weight → walk.last < r.id → is r ≡ true) where
        taken_under : (one : ℕ × Document) (v : ℕ) → walk.last < one.0 → (v ≤ ceiling) ⊎ (v < need) → Shown is (taken query paging one (Some v)) []
        taken_under one v above h =
            elim (nat_le paging.options.cutoff v) as (λ b. nat_le paging.options.cutoff v ≡ b → Shown is (cond b (ranked query paging one v ∷ []) []) []) [
              | true ↦ λ e. inl (by h (leb-true paging.options.cutoff v e), refl)
              | false ↦ λ e. refl
            ] refl
          where
            by : (v ≤ ceiling) ⊎ (v < need) → paging.options.cutoff ≤ v → is (ranked query paging one v) ≡ true
            by (inl low) cut = under (ranked query paging one v) low cut above
            by (inr less) cut = light (ranked query paging one v) less cut above

        which : (v : ℕ) (o : Option ℕ) → CoversAt (Some v) o need → unwrap_or o 0 ≤ ceiling → (need ≤ v) ⊎ (v < need) → (v ≤ ceiling) ⊎ (v < need)
        which v None covers low h = inr covers
        which v (Some w) covers low (inl heavy) = let same = covers.1 heavy in inl (omega (arith, same, low))
        which v (Some w) covers low (inr less) = inr less

        taken_any : (one : ℕ × Document) (o : Option ℕ) → walk.last < one.0 → CoversAt o (give one.0) need → Shown is (taken query paging one o) []
        taken_any one None above covers = refl
        taken_any one (Some v) above covers = taken_under one v above (which v (give one.0) covers (most one.0) (split_need query paging is v need))

        all_under : (ds : Docs) → AllByRecursion (λ (d : ℕ × Document). walk.last < d.0) ds → AllByRecursion (covered give need) ds → Shown is (found_by query paging ds) []
        all_under [] above covers = refl
        all_under (d ∷ ds) above covers =
            subst (λ rs. Shown is rs []) (sym (found_step query paging d ds (scores query paging d) refl))
            (shown_append is (taken query paging d (scores query paging d)) [] (found_by query paging ds) [] (taken_any d (scores query paging d) above.0 covers.0) (all_under ds above.1 covers.1))

      -- nothing can weigh as much as the cutoff
      pub ended_below : ceiling < paging.options.cutoff → HasEnded query paging docs seen
      ended_below low =
          end_with (full_of walk.right)
          (all_under (is_behind_page paging.order (held_by paging docs seen)) (passes_of walk.right) (λ r at cut above. absurd (omega (arith, low, at, cut)))
          walk.rest (above_all walk.last walk.rest (omega arith) walk.rises) walk.covers)
          (λ free. inl (nothing_shown query paging (found_by query paging walk.rest) []
          (all_under (λ _. false) (no_need query paging (λ _. false) walk.last need free) (λ r at cut above. absurd (omega (arith, low, at, cut)))
          walk.rest (above_all walk.last walk.rest (omega arith) walk.rises) walk.covers)))

      -- and all was asked for: all was seen as it is
      pub all_below : ceiling < paging.options.cutoff → need ≤ paging.options.cutoff → found_by query paging docs ≡ seen
      all_below low free =
          whole
          ∙ ap (λ rs. found_by query paging walk.before ++ rs)
          (nothing_shown query paging (found_by query paging walk.rest) []
          (all_under (λ _. false) (no_need query paging (λ _. false) walk.last need free) (λ r at cut above. absurd (omega (arith, low, at, cut)))
          walk.rest (above_all walk.last walk.rest (omega arith) walk.rises) walk.covers))
          ∙ append-nil (found_by query paging walk.before)
          ∙ walk.exact free

      -- enough was seen, and nothing can enter the page
      pub ended_settled : wanted paging ≤ length seen → IsFull paging docs seen → ((r : Rank) → r.weight ≤ ceiling → walk.last < r.id → IsBehindPage paging docs seen r) → HasEnded query paging docs seen
      ended_settled many full under =
          end_with (full_of walk.right)
          (all_under (is_behind_page paging.order (held_by paging docs seen)) (passes_of walk.right) (λ r at cut above. under r at above)
          walk.rest (above_all walk.last walk.rest (omega arith) walk.rises) walk.covers)
          (λ free. inr (many, full))
