-- What is left of parts, together: its first is the least of the parts' first, and behind that it is what is left when this part moves on.
use Rattle.std.proofs.Common.{◌∙◌, ◌≡◌, ℕ, zero, suc, Bool, true, false, cond, ◌+◌, nat_le, ◌<◌, ◌≤◌, ◌⊎◌, inl, inr, List, [], ◌∷◌, length, set, Option, None, Some, option_map, is_some, refl, sym, ap, arith, subst}
use Rattle.std.specs.List.{cons_option}
use Rattle.std.proofs.lemmas.Bool.{cases_eq, cases_order, cases_lt, le-leb, lt-leb, leb-true, leb-false}
use Rattle.std.proofs.lemmas.List.{get_or-set_same, get_or-set_other}
use Rattle.sk_sorted.specs.Entries.{RiseAbove, found, from, first_id}
use Rattle.sk_sorted.proofs.EntryLaws.{RiseAbove-lower, found-here, found-other, found-below, from-below, from-at}
use Rattle.sk_sorted.specs.Joined.{joined_id, part_of, own_id, joined, part_at, AllRise, given, IsLeast}
use Rattle.sk_sorted.proofs.JoinedIdLaws.{own-joined, part-joined, joined-own, joined-lt, joined-le}
use Rattle.sk_sorted.proofs.JoinedLaws.{found-joined, rise-joined, joined_by_found, all-at, all-set, length-set_same}

module _ {X : Type 0} where
  abbrev the_none : Option X
  the_none = None

  some_none : {x : X} → Some x ≡ None → ⊥
  some_none e = cc

  -- ---- the first
  pub first_by_found : (h low : ℕ) (es : List (ℕ × X)) (x : X) → RiseAbove low es → found h es ≡ Some x → ((id : ℕ) → id < h → found id es ≡ None) → first_id es ≡ Some h
  first_by_found h low [] x up e none = absurd (some_none (sym e))
  first_by_found h low (e ∷ es) x up is none = by_order (cases_order e.0 h)
    where
      by_order : (e.0 ≡ h) ⊎ ((e.0 < h) ⊎ (h < e.0)) → Some e.0 ≡ Some h
      by_order (inl s) = ap Some s
      by_order (inr (inl l)) = absurd (some_none (sym (found-here e.0 e es refl) ∙ none e.0 l))
      by_order (inr (inr l)) = absurd (some_none (sym is ∙ found-other h e es (λ s. absurd (omega (arith, l, s))) ∙ found-below e.0 h es (omega (arith, l)) up.1))

  -- what is first is there
  pub found_first : (h : ℕ) (es : List (ℕ × X)) → first_id es ≡ Some h → (x : X) × (found h es ≡ Some x)
  found_first h [] e = absurd (gone e)
    where
      gone : None ≡ Some h → ⊥
      gone s = cc
  found_first h (e ∷ es) is = (e.1, found-here h e es (same is))
    where
      same : Some e.0 ≡ Some h → e.0 ≡ h
      same s = cc

  -- what is there has a first that is no later
  pub first_at_most : (id low : ℕ) (es : List (ℕ × X)) (x : X) → RiseAbove low es → found id es ≡ Some x → (h : ℕ) × (first_id es ≡ Some h) × (h ≤ id)
  first_at_most id low [] x up e = absurd (some_none (sym e))
  first_at_most id low (e ∷ es) x up is = (e.0, refl, at (cases_lt id e.0))
    where
      at : (id < e.0) ⊎ (e.0 ≤ id) → e.0 ≤ id
      at (inl l) = absurd (some_none (sym is ∙ found-other id e es (λ s. absurd (omega (arith, l, s))) ∙ found-below e.0 id es (omega (arith, l)) up.1))
      at (inr l) = l

  -- ---- from an id on
  pub rise-from : (target low : ℕ) (es : List (ℕ × X)) → RiseAbove low es → RiseAbove low (from target es)
  rise-from target low [] up = tt
  rise-from target low (e ∷ es) up = by_id (rise-from target e.0 es up.1) (cases_lt e.0 target)
    where
      by_id : RiseAbove e.0 (from target es) → (e.0 < target) ⊎ (target ≤ e.0) → RiseAbove low (from target (e ∷ es))
      by_id rest (inl l) = subst (RiseAbove low) (sym (from-below target e es l)) (RiseAbove-lower low e.0 (from target es) (omega (arith, up.0)) rest)
      by_id rest (inr l) = subst (RiseAbove low) (sym (from-at target e es l)) up

  pub found-from : (target id low : ℕ) (es : List (ℕ × X)) → RiseAbove low es → found id (from target es) ≡ cond (nat_le target id) (found id es) None
  found-from target id low [] up = none (nat_le target id)
    where
      none : (b : Bool) → the_none ≡ cond b the_none the_none
      none true = refl
      none false = refl
  found-from target id low (e ∷ es) up = by_id (found-from target id e.0 es up.1) (cases_lt e.0 target)
    where
      by_id : found id (from target es) ≡ cond (nat_le target id) (found id es) None → (e.0 < target) ⊎ (target ≤ e.0) → found id (from target (e ∷ es)) ≡ cond (nat_le target id) (found id (e ∷ es)) None
      by_id rest (inl l) = ap (found id) (from-below target e es l) ∙ rest ∙ by_test (nat_le target id) refl
        where
          by_test : (b : Bool) → nat_le target id ≡ b → cond b (found id es) None ≡ cond b (found id (e ∷ es)) None
          by_test true s = let far = leb-true target id s in sym (found-other id e es (λ t. absurd (omega (arith, far, t, l))))
          by_test false s = refl
      by_id rest (inr l) = ap (found id) (from-at target e es l) ∙ by_test (nat_le target id) refl
        where
          by_test : (b : Bool) → nat_le target id ≡ b → found id (e ∷ es) ≡ cond b (found id (e ∷ es)) None
          by_test true s = refl
          by_test false s =
              let near = leb-false target id s in
              found-other id e es (λ t. absurd (omega (arith, near, t, l))) ∙ found-below e.0 id es (omega (arith, near, l)) up.1

  -- ---- of parts
  module _ (rests : List (List (ℕ × X))) (some : 0 < length rests) (up : AllRise rests) where
    abbrev pub n : ℕ
    n = length rests

    pub none-joined : ((part : ℕ) → first_id (part_at rests part) ≡ None) → joined rests ≡ []
    none-joined none = joined_by_found rests [] up tt (λ id begun. sym (ap (found (own_id n id)) (empty (part_at rests (part_of n id)) (none (part_of n id)))))
      where
        empty : (es : List (ℕ × X)) → first_id es ≡ None → es ≡ []
        empty [] e = refl
        empty (e ∷ es) s = absurd (gone s)
          where
            gone : Some e.0 ≡ None → ⊥
            gone t = cc

    module _ (part own : ℕ) (below : part < n) (begun : 1 ≤ own) (least : IsLeast rests part own) where
      abbrev pub h : ℕ
      h = joined_id n part own

      h_begun : 1 ≤ h
      h_begun = omega arith

      -- what another part has is behind it
      not_before : (id : ℕ) (x : X) → 1 ≤ id → found (own_id n id) (part_at rests (part_of n id)) ≡ Some x → h ≤ id
      not_before id x l is =
          let f = first_at_most (own_id n id) 0 (part_at rests (part_of n id)) x (all-at rests (part_of n id) up) is in
          let low = least.least (part_of n id) f.0 f.1 in
          let le = joined-le n (part_of n id) f.0 (own_id n id) f.2 in
          let whole = joined-own n id l in
          omega (arith, low, le, whole)

      before : (id : ℕ) → id < h → found id (joined rests) ≡ None
      before zero l = found-below 0 0 (joined rests) (omega arith) (rise-joined rests)
      before (suc id) l = found-joined (suc id) rests (omega arith) up ∙ none (found (own_id n (suc id)) (part_at rests (part_of n (suc id)))) refl
        where
          none : (o : Option X) → found (own_id n (suc id)) (part_at rests (part_of n (suc id))) ≡ o → o ≡ None
          none None e = refl
          none (Some x) e = let late = not_before (suc id) x (omega arith) e in absurd (omega (arith, late, l))

      -- the least of the first is the first
      pub least-joined : first_id (joined rests) ≡ Some h
      least-joined =
          let there = found_first own (part_at rests part) least.first in
          first_by_found h 0 (joined rests) there.0 (rise-joined rests)
          (found-joined h rests h_begun up ∙ (λ i. found (own-joined n part own below begun i) (part_at rests (part-joined n part own below i))) ∙ there.1)
          before

      -- and behind it there is what is left when its part moves on
      pub moved-joined : joined (set rests part (from (own + 1) (part_at rests part))) ≡ from (h + 1) (joined rests)
      moved-joined =
          joined_by_found (set rests part moved) (from (h + 1) (joined rests))
          (all-set (RiseAbove 0) rests part moved up (rise-from (own + 1) 0 (part_at rests part) (all-at rests part up)))
          (rise-from (h + 1) 0 (joined rests) (rise-joined rests))
          (λ id l. subst (λ m. found id (from (h + 1) (joined rests)) ≡ found (own_id m id) (part_at (set rests part moved) (part_of m id))) (sym (length-set_same rests part moved)) (at id l (cases_eq (part_of n id) part)))
        where
          moved : List (ℕ × X)
          moved = from (own + 1) (part_at rests part)

          at : (id : ℕ) → 1 ≤ id → (part_of n id ≡ part) ⊎ (part_of n id ≡ part → ⊥) → found id (from (h + 1) (joined rests)) ≡ found (own_id n id) (part_at (set rests part moved) (part_of n id))
          at id l (inl same) =
              found-from (h + 1) id 0 (joined rests) (rise-joined rests)
              ∙ (λ i. cond (tests i) (found-joined id rests l up i) None)
              ∙ ap (λ q. cond (nat_le (own + 1) (own_id n id)) (found (own_id n id) (part_at rests q)) None) same
              ∙ sym (ap (λ q. found (own_id n id) (part_at (set rests part moved) q)) same ∙ ap (found (own_id n id)) (get_or-set_same rests part moved [] below) ∙ found-from (own + 1) (own_id n id) 0 (part_at rests part) (all-at rests part up))
            where
              whole : joined_id n part (own_id n id) ≡ id
              whole = sym (ap (λ q. joined_id n q (own_id n id)) same) ∙ joined-own n id l

              tests : nat_le (h + 1) id ≡ nat_le (own + 1) (own_id n id)
              tests = by_own (cases_lt own (own_id n id))
                where
                  by_own : (own < own_id n id) ⊎ (own_id n id ≤ own) → nat_le (h + 1) id ≡ nat_le (own + 1) (own_id n id)
                  by_own (inl lt) = let far = joined-lt n part own (own_id n id) some begun lt in le-leb (h + 1) id (omega (arith, far, whole)) ∙ sym (le-leb (own + 1) (own_id n id) (omega (arith, lt)))
                  by_own (inr le) = let near = joined-le n part (own_id n id) own le in lt-leb (h + 1) id (omega (arith, near, whole)) ∙ sym (lt-leb (own + 1) (own_id n id) (omega (arith, le)))
          at id l (inr other) =
              found-from (h + 1) id 0 (joined rests) (rise-joined rests)
              ∙ ap (λ o. cond (nat_le (h + 1) id) o None) (found-joined id rests l up)
              ∙ by_test (nat_le (h + 1) id) refl (found (own_id n id) (part_at rests (part_of n id))) refl
              ∙ sym (ap (found (own_id n id)) (get_or-set_other rests part (part_of n id) moved [] other))
            where
              by_test : (b : Bool) → nat_le (h + 1) id ≡ b → (o : Option X) → found (own_id n id) (part_at rests (part_of n id)) ≡ o → cond b o None ≡ o
              by_test true s o e = refl
              by_test false s None e = refl
              by_test false s (Some x) e =
                  let late = not_before id x l e in
                  let near = leb-false (h + 1) id s in
                  absurd (other (sym (ap (part_of n) (whole late near)) ∙ part-joined n part own below))
                where
                  whole : h ≤ id → id < h + 1 → h ≡ id
                  whole a b = omega (arith, a, b)

-- ---- what is given of the entries
module _ {Y : Type 0} where
  rise_step : (low id : ℕ) (o : Option Y) (es : List (ℕ × Y)) → low < id → RiseAbove id es → RiseAbove low (cons_option (option_map (λ y. (id, y)) o) es)
  rise_step low id None es l up = RiseAbove-lower low id es (omega (arith, l)) up
  rise_step low id (Some y) es l up = (l, up)

module _ {X Y : Type 0} where
  pub rise-given : (give : ℕ → Option Y) (low : ℕ) (es : List (ℕ × X)) → RiseAbove low es → RiseAbove low (given give es)
  rise-given give low [] up = tt
  rise-given give low (e ∷ es) up = rise_step low e.0 (give e.0) (given give es) up.0 (rise-given give e.0 es up.1)

  pub found-given : (give : ℕ → Option Y) (id low : ℕ) (es : List (ℕ × X)) → RiseAbove low es → found id (given give es) ≡ cond (is_some (found id es)) (give id) None
  found-given give id low [] up = refl
  found-given give id low (e ∷ es) up = by_id (found-given give id e.0 es up.1) (cases_eq e.0 id) (give e.0) refl
    where
      by_id : found id (given give es) ≡ cond (is_some (found id es)) (give id) None → (e.0 ≡ id) ⊎ (e.0 ≡ id → ⊥) → (o : Option Y) → give e.0 ≡ o → found id (cons_option (option_map (λ y. (e.0, y)) o) (given give es)) ≡ cond (is_some (found id (e ∷ es))) (give id) None
      by_id rest (inl s) None g =
          rest ∙ ap (λ o. cond (is_some o) (give id) None) (found-below e.0 id es (omega (arith, s)) up.1)
          ∙ sym (ap (λ o. cond (is_some o) (give id) None) (found-here id e es s) ∙ ap give (sym s) ∙ g)
      by_id rest (inl s) (Some y) g = found-here id (e.0, y) (given give es) s ∙ sym (ap (λ o. cond (is_some o) (give id) None) (found-here id e es s) ∙ ap give (sym s) ∙ g)
      by_id rest (inr d) None g = rest ∙ ap (λ o. cond (is_some o) (give id) None) (sym (found-other id e es d))
      by_id rest (inr d) (Some y) g = found-other id (e.0, y) (given give es) d ∙ rest ∙ ap (λ o. cond (is_some o) (give id) None) (sym (found-other id e es d))

  -- what is given of all is what is given of the parts, together
  pub given-joined : (parts : List (List (ℕ × X))) (rests : List (List (ℕ × Y))) (give : ℕ → Option Y) (gives : ℕ → ℕ → Option Y)
      → length rests ≡ length parts → AllRise parts → AllRise rests
      → ((part : ℕ) → part_at rests part ≡ given (gives part) (part_at parts part))
      → ((id : ℕ) → 1 ≤ id → give id ≡ gives (part_of (length parts) id) (own_id (length parts) id))
      → joined rests ≡ given give (joined parts)
  given-joined parts rests give gives same up down are turns =
      joined_by_found rests (given give (joined parts)) down (rise-given give 0 (joined parts) (rise-joined parts))
      (λ id l. subst (λ m. found id (given give (joined parts)) ≡ found (own_id m id) (part_at rests (part_of m id))) (sym same) (at id l))
    where
      at : (id : ℕ) → 1 ≤ id → found id (given give (joined parts)) ≡ found (own_id (length parts) id) (part_at rests (part_of (length parts) id))
      at id l =
          found-given give id 0 (joined parts) (rise-joined parts)
          ∙ (λ i. cond (is_some (found-joined id parts l up i)) (turns id l i) None)
          ∙ sym (ap (found (own_id (length parts) id)) (are (part_of (length parts) id)) ∙ found-given (gives (part_of (length parts) id)) (own_id (length parts) id) 0 (part_at parts (part_of (length parts) id)) (all-at parts (part_of (length parts) id) up))
