-- What is given of documents, in their order: when it is the same one by one, and that fewer are left past one.
use Rattle.std.proofs.Common.{◌≡◌, ◌≤◌, ◌<◌, ◌+◌, ℕ, suc, Bool, true, false, cond, nat_le, List, [], ◌∷◌, length, drop, Option, None, Some, option_map, is_some, unwrap_or, refl, sym, ap, ◌∙◌, subst, arith, true≢false}
use Rattle.std.specs.List.{AllByRecursion, cons_option, filter_map}
use Rattle.std.proofs.lemmas.Bool.{lt-leb}
use Rattle.sk_base.specs.Numbers.{Docs}
use Rattle.sk_sorted.specs.Entries.{RiseAbove, first_id}
use Rattle.sk_sorted.proofs.EntryLaws.{RiseAbove-lower}
use Rattle.sk_model.specs.Covers.{CoversAt}
use Rattle.sk_model.specs.Documents.{Document}
use Rattle.sk_page.proofs.WalkLaws.{weighed, first_weight}

-- ---- the same one by one

-- what is given of documents, each under its id
abbrev pub listed : (ℕ × Document → Option ℕ) → Docs → List (ℕ × ℕ)
listed give docs = filter_map (λ one. option_map (λ w. (one.0, w)) (give one)) docs

-- documents that weigh something stand in the order of all
rises : (f : ℕ × Document → Option ℕ) (low : ℕ) (docs : Docs) → RiseAbove low docs → RiseAbove low (listed f docs)
rises f low [] up = tt
rises f low (one ∷ docs) up = step (f one) low one.0 (listed f docs) up.0 (rises f one.0 docs up.1)
  where
    step : (o : Option ℕ) (low id : ℕ) (ps : List (ℕ × ℕ)) → low < id → RiseAbove id ps → RiseAbove low (cons_option (option_map (λ w. (id, w)) o) ps)
    step None low id ps ltb-true up = RiseAbove-lower low id ps (omega (arith, ltb-true)) up
    step (Some w) low id ps ltb-true up = (ltb-true, up)

not_first : (id w : ℕ) (ps qs : List (ℕ × ℕ)) → RiseAbove id ps → ps ≡ (id, w) ∷ qs → ⊥
not_first id w [] qs up e = let long : 0 ≡ suc (length qs) = ap length e in absurd (omega (arith, long))
not_first id w (p ∷ ps) qs up e = let same : p.0 ≡ id = ap (λ (rs : List (ℕ × ℕ)). unwrap_or (first_id rs) 0) e in absurd (omega (arith, up.0, same))

-- what weighs the same in order weighs the same one by one
pub same_given : (f g : ℕ × Document → Option ℕ) (low : ℕ) (docs : Docs) → RiseAbove low docs → listed f docs ≡ listed g docs → AllByRecursion (λ (one : ℕ × Document). f one ≡ g one) docs
same_given f g low [] up e = tt
same_given f g low (one ∷ docs) up e = step (f one) (g one) refl refl e (rises f one.0 docs up.1) (rises g one.0 docs up.1) (same_given f g one.0 docs up.1)
  where
    step : (o p : Option ℕ) → f one ≡ o → g one ≡ p
        → cons_option (option_map (λ w. (one.0, w)) o) (listed f docs) ≡ cons_option (option_map (λ w. (one.0, w)) p) (listed g docs)
        → RiseAbove one.0 (listed f docs) → RiseAbove one.0 (listed g docs)
        → (listed f docs ≡ listed g docs → AllByRecursion (λ (d : ℕ × Document). f d ≡ g d) docs)
        → (f one ≡ g one) × AllByRecursion (λ (d : ℕ × Document). f d ≡ g d) docs
    step None None a b e up down rest = (a ∙ sym b, rest e)
    step None (Some w) a b e up down rest = absurd (not_first one.0 w (listed f docs) (listed g docs) up e)
    step (Some v) None a b e up down rest = absurd (not_first one.0 v (listed g docs) (listed f docs) down (sym e))
    step (Some v) (Some w) a b e up down rest = (a ∙ ap Some (ap (λ (rs : List (ℕ × ℕ)). first_weight rs) e) ∙ sym b, rest (ap (drop 1) e))

-- ---- fewer past one

abbrev pub the_none : Option ℕ
the_none = None

fewer_step : (give give2 : ℕ → Option ℕ) (need h : ℕ) (docs : Docs) → AllByRecursion (λ (d : ℕ × Document). CoversAt (cond (nat_le (h + 1) d.0) (give d.0) None) (give2 d.0) need) docs → length (weighed give2 docs) ≤ length (weighed give docs)
fewer_step give give2 need h [] over = omega arith
fewer_step give give2 need h (d ∷ docs) over = step (nat_le (h + 1) d.0) (give d.0) (give2 d.0) over.0 (fewer_step give give2 need h docs over.1)
  where
    step : (b : Bool) (o p : Option ℕ) → CoversAt (cond b o None) p need → length (weighed give2 docs) ≤ length (weighed give docs)
        → length (cons_option (option_map (λ w. (d.0, w)) p) (weighed give2 docs)) ≤ length (cons_option (option_map (λ w. (d.0, w)) o) (weighed give docs))
    step b None None c le = le
    step b (Some v) None c le = omega (arith, le)
    step true None (Some w) c le = absurd c
    step false None (Some w) c le = absurd c
    step b (Some v) (Some w) c le = omega (arith, le)

pub none_either : (b : Bool) → cond b (the_none) the_none ≡ the_none
none_either true = refl
none_either false = refl

pub fewer_left : (give give2 : ℕ → Option ℕ) (need h : ℕ) (docs : Docs) → first_id (weighed give docs) ≡ Some h → AllByRecursion (λ (d : ℕ × Document). CoversAt (cond (nat_le (h + 1) d.0) (give d.0) None) (give2 d.0) need) docs
    → length (weighed give2 docs) < length (weighed give docs)
fewer_left give give2 need h [] e over = absurd (true≢false (sym (ap is_some e)))
fewer_left give give2 need h (d ∷ docs) e over = step (give d.0) (give2 d.0) e over.0 (fewer_step give give2 need h docs over.1) (λ f. fewer_left give give2 need h docs f over.1)
  where
    not_later : (b : ℕ) → b ≡ h → nat_le (h + 1) b ≡ false
    not_later b same = lt-leb (h + 1) b (omega (arith, same))

    step : (o p : Option ℕ) → first_id (cons_option (option_map (λ w. (d.0, w)) o) (weighed give docs)) ≡ Some h → CoversAt (cond (nat_le (h + 1) d.0) o None) p need → length (weighed give2 docs) ≤ length (weighed give docs)
        → (first_id (weighed give docs) ≡ Some h → length (weighed give2 docs) < length (weighed give docs))
        → length (cons_option (option_map (λ w. (d.0, w)) p) (weighed give2 docs)) < length (cons_option (option_map (λ w. (d.0, w)) o) (weighed give docs))
    step None None f c le rest = rest f
    step None (Some w) f c le rest = absurd (subst (λ (o : Option ℕ). CoversAt o (Some w) need) (none_either (nat_le (h + 1) d.0)) c)
    step (Some v) None f c le rest = omega (arith, le)
    step (Some v) (Some w) f c le rest =
        let same : d.0 ≡ h = ap (λ o. unwrap_or o 0) f in
        absurd (subst (λ b. CoversAt (cond b (Some v) None) (Some w) need) (not_later d.0 same) c)
