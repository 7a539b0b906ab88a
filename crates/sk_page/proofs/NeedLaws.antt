-- What a search asks its tree for is right.
use Rattle.std.proofs.Common.{◌≡◌, ◌≤◌, ◌<◌, ◌⊎◌, ℕ, Bool, true, false, cond, max, nat_lt, nat_le, ◌||◌, ◌&&◌, List, Option, None, Some, refl, sym, ap, arith, inl, inr, true≢false}
use Rattle.std.specs.List.Sorted.{IsSortedBy}
use Rattle.std.proofs.lemmas.Bool.Decides.{nat_tests}
use Rattle.std.proofs.lemmas.Bool.{leb-true, ltb-false, ltb-true}
use Rattle.sk_base.specs.declared.find.Paging.{Paging}
use Rattle.sk_base.specs.declared.rank.Rank.{Rank}
use Rattle.sk_base.specs.Before.{is_before}
use Rattle.sk_base.specs.Numbers.{Docs}
use Rattle.sk_model.specs.Counts.{wanted}
use Rattle.sk_heap.specs.declared.hit.Hit.{Hit}
use Rattle.sk_heap.specs.Held.{Held, need_of}
use Rattle.sk_collapse.specs.Collapsed.{Collapsed}
use Rattle.sk_page.specs.Walks.{IsFull, IsBehindPage, IsNeed}
use Rattle.sk_page.specs.Pages.{Pages}
use Rattle.sk_page.specs.Needs.{is_above, is_settled, need_at, need_for}
use Rattle.sk_page.proofs.PageLaws.{page_is_full, page_passes, page_of_none}

one_of : (a b : ℕ) → (a ≤ b) ⊎ (b < a)
one_of a b =
    elim (nat_lt b a) as (λ t. nat_lt b a ≡ t → (a ≤ b) ⊎ (b < a)) [
      | true ↦ λ e. inr (ltb-true b a e)
      | false ↦ λ e. inl (ltb-false b a e)
    ] refl

module _ (paging : Paging) (docs : Docs) where
  -- the greater of two
  pub need_max : (saw : List Rank) (last a b : ℕ) → IsNeed paging docs saw last a → IsNeed paging docs saw last b → IsNeed paging docs saw last (max a b)
  need_max saw last a b (inl h) (inl g) = inl (omega (arith, h, g))
  need_max saw last a b (inl h) (inr g) = either (one_of b a)
    where
      either : (b ≤ a) ⊎ (a < b) → IsNeed paging docs saw last (max a b)
      either (inl l) = inl (omega (arith, h, l))
      either (inr l) = inr (g.0, λ r w above. g.1 r (omega (arith, w, l)) above)
  need_max saw last a b (inr h) (inl g) = either (one_of a b)
    where
      either : (a ≤ b) ⊎ (b < a) → IsNeed paging docs saw last (max a b)
      either (inl l) = inl (omega (arith, g, l))
      either (inr l) = inr (h.0, λ r w above. h.1 r (omega (arith, w, l)) above)
  need_max saw last a b (inr h) (inr g) = inr (h.0, λ r w above. either r w above (one_of a b))
    where
      either : (r : Rank) → r.weight < max a b → last < r.id → (a ≤ b) ⊎ (b < a) → IsBehindPage paging docs saw r
      either r w above (inl l) = g.1 r (omega (arith, w, l)) above
      either r w above (inr l) = h.1 r (omega (arith, w, l)) above

  -- where what is behind the page stays behind it
  pub need_on : (saw more : List Rank) (last later need : ℕ) → last ≤ later → (IsFull paging docs saw → IsFull paging docs more) → (IsFull paging docs saw → (r : Rank) → IsBehindPage paging docs saw r → IsBehindPage paging docs more r)
      → IsNeed paging docs saw last need → IsNeed paging docs more later need
  need_on saw more last later need up full keeps (inl low) = inl low
  need_on saw more last later need up full keeps (inr h) = inr (full h.0, λ r w above. keeps h.0 r (h.1 r w (omega (arith, up, above))))

  module _ (last : ℕ) (saw : List Rank) (held : Held) (c : Option Collapsed) (pages : Pages paging docs last saw held c) (sorted : IsSortedBy (λ (x y : Hit). is_before held.order x.rank y.rank) held.hits) where
    at_need : (o : Option ℕ) (ceiling : ℕ) → need_of held ≡ o → IsNeed paging docs saw last (need_at o paging.options.cutoff ceiling)
    at_need None ceiling e = let both = page_of_none paging docs last saw held c pages e in inr (both.0, λ r w above. both.1 r)
    at_need (Some n) ceiling e = either (one_of n paging.options.cutoff)
      where
        either : (n ≤ paging.options.cutoff) ⊎ (paging.options.cutoff < n) → IsNeed paging docs saw last (max n paging.options.cutoff)
        either (inl l) = inl (omega (arith, l))
        either (inr l) = inr (page_is_full paging docs last saw held c pages n e (omega (arith, l)), λ r w above. page_passes paging docs last saw held c pages sorted n e r (omega (arith, w, l)) above)

    pub need_right : (seen ceiling : ℕ) → IsNeed paging docs saw last (need_for paging.options seen held ceiling)
    need_right seen ceiling =
        elim (nat_lt seen (wanted paging)) as (λ b. IsNeed paging docs saw last (cond b paging.options.cutoff (need_at (need_of held) paging.options.cutoff ceiling))) [
          | true ↦ inl (omega arith)
          | false ↦ at_need (need_of held) ceiling refl
        ]

    -- none can enter the page
    above_passes : (o : Option ℕ) (ceiling : ℕ) → need_of held ≡ o → is_above o ceiling ≡ true → IsFull paging docs saw × ((r : Rank) → r.weight ≤ ceiling → last < r.id → IsBehindPage paging docs saw r)
    above_passes None ceiling e h = let both = page_of_none paging docs last saw held c pages e in (both.0, λ r w above. both.1 r)
    above_passes (Some n) ceiling e h =
        let more : ceiling < n = ltb-true ceiling n h in
        (page_is_full paging docs last saw held c pages n e (omega (arith, more)), λ r w above. page_passes paging docs last saw held c pages sorted n e r (omega (arith, w, more)) above)

    pub settled_is : (seen ceiling : ℕ) → is_settled paging.options seen held ceiling ≡ true
        → (ceiling < paging.options.cutoff) ⊎ ((paging.options.cutoff ≤ ceiling) × (wanted paging ≤ seen) × IsFull paging docs saw × ((r : Rank) → r.weight ≤ ceiling → last < r.id → IsBehindPage paging docs saw r))
    settled_is seen ceiling h =
        elim (nat_lt ceiling paging.options.cutoff) as (λ b. nat_lt ceiling paging.options.cutoff ≡ b → (b || (nat_le (wanted paging) seen && is_above (need_of held) ceiling)) ≡ true
        → (ceiling < paging.options.cutoff) ⊎ ((paging.options.cutoff ≤ ceiling) × (wanted paging ≤ seen) × IsFull paging docs saw × ((r : Rank) → r.weight ≤ ceiling → last < r.id → IsBehindPage paging docs saw r))) [
          | true ↦ λ e g. inl (ltb-true ceiling paging.options.cutoff e)
          | false ↦ λ e g.
              let b = both_true (nat_le (wanted paging) seen) (is_above (need_of held) ceiling) g in
              let p = above_passes (need_of held) ceiling refl b.1 in
              inr (ltb-false ceiling paging.options.cutoff e, leb-true (wanted paging) seen b.0, p.0, p.1)
        ] refl h
      where
        both_true : (a b : Bool) → (a && b) ≡ true → (a ≡ true) × (b ≡ true)
        both_true true b e = (refl, e)
        both_true false b e = absurd (true≢false (sym e))

-- until enough were seen the cutoff alone is asked for
pub need_few : (paging : Paging) (seen ceiling : ℕ) (held : Held) → seen < wanted paging → need_for paging.options seen held ceiling ≡ paging.options.cutoff
need_few paging seen ceiling held few = ap (λ b. cond b paging.options.cutoff (need_at (need_of held) paging.options.cutoff ceiling)) (is_less seen (wanted paging) few)
  where
    is_less : (a b : ℕ) → a < b → nat_lt a b ≡ true
    is_less a b l = grind (arith, nat_tests)
