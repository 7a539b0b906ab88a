-- Several trees, one of each part, of which the one with the first head moves past it: together they pass that document alone.
use Rattle.std.proofs.Common.{◌∙◌, ◌≡◌, ◌≤◌, ◌<◌, ◌+◌, ◌⊎◌, inl, inr, ℕ, Bool, true, false, cond, nat_le, List, [], ◌∷◌, length, set, Option, None, Some, IfSome, refl, sym, ap, subst, arith}
use Rattle.std.specs.List.{AllByRecursion, cons_option}
use Rattle.std.specs.Option.{option_map, IsSomeAnd}
use Rattle.std.proofs.lemmas.Bool.{cases_eq, cases_lt, le-leb, lt-leb}
use Rattle.sk_base.specs.Numbers.{Docs}
use Rattle.sk_sorted.specs.Entries.{RiseAbove, first_id}
use Rattle.sk_sorted.specs.Joined.{joined_id, part_of, own_id, given, give_at, give_joined}
use Rattle.sk_sorted.proofs.JoinedIdLaws.{part-joined, joined-own, joined-le, joined-lt}
use Rattle.sk_sorted.proofs.GiveLaws.{give_joined-set_same, give_joined-set_other}
use Rattle.sk_model.specs.Covers.{CoversAt}
use Rattle.sk_model.specs.Documents.{Document}
use Rattle.sk_model.proofs.CoverLaws.{covers_itself}

-- before the first nothing is given
none_before : (give : ℕ → Option ℕ) (low h : ℕ) (docs : Docs) → RiseAbove low docs → first_id (given give docs) ≡ Some h → AllByRecursion (λ (d : ℕ × Document). d.0 < h → give d.0 ≡ None) docs
none_before give low h [] up first = tt
none_before give low h (d ∷ docs) up first = by_given (none_before give d.0 h docs up.1) (give d.0) refl first
  where
    later : (low2 : ℕ) (ds : Docs) → RiseAbove low2 ds → h ≤ low2 → AllByRecursion (λ (e : ℕ × Document). e.0 < h → give e.0 ≡ None) ds
    later low2 [] rise le = tt
    later low2 (e ∷ ds) rise le = (λ l. let above = rise.0 in absurd (omega (arith, above, le, l)), later e.0 ds rise.1 (let above = rise.0 in omega (arith, above, le)))

    some_is : (a b : ℕ) → Some a ≡ Some b → a ≡ b
    some_is a b e = cc

    by_given : (first_id (given give docs) ≡ Some h → AllByRecursion (λ (e : ℕ × Document). e.0 < h → give e.0 ≡ None) docs) → (o : Option ℕ) → give d.0 ≡ o → first_id (cons_option (option_map (λ w. (d.0, w)) o) (given give docs)) ≡ Some h → AllByRecursion (λ (e : ℕ × Document). e.0 < h → give e.0 ≡ None) (d ∷ docs)
    by_given rest None e f = (λ l. e, rest f)
    by_given rest (Some v) e f = let same = some_is d.0 h f in (λ l. absurd (omega (arith, same, l)), later d.0 docs up.1 (omega (arith, same)))

module _ (n part own need : ℕ) (gives : List (ℕ → Option ℕ)) (next : ℕ → Option ℕ) (some : 0 < n) (below : part < n) (many : length gives ≡ n) (begun : 1 ≤ own)
    (covers : (k : ℕ) → CoversAt (cond (nat_le (own + 1) k) (give_at gives part k) None) (next k) need) where
  abbrev h : ℕ
  h = joined_id n part own

  within : part < length gives
  within = omega (arith, below, many)

  at_id : (id : ℕ) → 1 ≤ id → (id < h → give_joined n gives id ≡ None) → (part_of n id ≡ part) ⊎ (part_of n id ≡ part → ⊥)
      → CoversAt (cond (nat_le (h + 1) id) (give_joined n gives id) None) (give_joined n (set gives part next) id) need
  at_id id l none (inl here) =
      subst (λ o. CoversAt (cond (nat_le (h + 1) id) (give_joined n gives id) None) o need) (sym (give_joined-set_same n gives part id next within here))
      (subst (λ b. CoversAt (cond b (give_joined n gives id) None) (next (own_id n id)) need) (sym (tests (cases_lt own (own_id n id))))
      (subst (λ p. CoversAt (cond (nat_le (own + 1) (own_id n id)) (give_at gives p (own_id n id)) None) (next (own_id n id)) need) (sym here) (covers (own_id n id))))
    where
      whole : joined_id n part (own_id n id) ≡ id
      whole = sym (ap (λ q. joined_id n q (own_id n id)) here) ∙ joined-own n id l

      tests : (own < own_id n id) ⊎ (own_id n id ≤ own) → nat_le (h + 1) id ≡ nat_le (own + 1) (own_id n id)
      tests (inl lt) = let far = joined-lt n part own (own_id n id) some begun lt in le-leb (h + 1) id (omega (arith, far, whole)) ∙ sym (le-leb (own + 1) (own_id n id) (omega (arith, lt)))
      tests (inr le) = let near = joined-le n part (own_id n id) own le in lt-leb (h + 1) id (omega (arith, near, whole)) ∙ sym (lt-leb (own + 1) (own_id n id) (omega (arith, le)))
  at_id id l none (inr there) =
      subst (λ o. CoversAt (cond (nat_le (h + 1) id) (give_joined n gives id) None) o need) (sym (give_joined-set_other n gives part id next there))
      (by_order (cases_lt h id))
    where
      not_here : id ≡ h → ⊥
      not_here same = there (ap (part_of n) same ∙ part-joined n part own below)

      by_order : (h < id) ⊎ (id ≤ h) → CoversAt (cond (nat_le (h + 1) id) (give_joined n gives id) None) (give_joined n gives id) need
      by_order (inl lt) = subst (λ b. CoversAt (cond b (give_joined n gives id) None) (give_joined n gives id) need) (sym (le-leb (h + 1) id (omega (arith, lt)))) (covers_itself (give_joined n gives id) need)
      by_order (inr le) =
          subst (λ o. CoversAt (cond (nat_le (h + 1) id) o None) o need) (sym (none (strictly (cases_eq id h)))) (nothing (nat_le (h + 1) id))
        where
          strictly : (id ≡ h) ⊎ (id ≡ h → ⊥) → id < h
          strictly (inl same) = absurd (not_here same)
          strictly (inr other) = omega (arith, le, other)

          nothing : (b : Bool) → CoversAt (cond b None None) None need
          nothing true = covers_itself None need
          nothing false = covers_itself None need

  go : (low : ℕ) (docs : Docs) → RiseAbove low docs → AllByRecursion (λ (d : ℕ × Document). d.0 < h → give_joined n gives d.0 ≡ None) docs
      → AllByRecursion (λ (one : ℕ × Document). CoversAt (cond (nat_le (h + 1) one.0) (give_joined n gives one.0) None) (give_joined n (set gives part next) one.0) need) docs
  go low [] up none = tt
  go low (d ∷ docs) up none = (at_id d.0 (let above = up.0 in omega (arith, above)) none.0 (cases_eq (part_of n d.0) part), go d.0 docs up.1 none.1)

  pub passes_joined : (docs : Docs) → RiseAbove 0 docs → first_id (given (give_joined n gives) docs) ≡ Some h
      → AllByRecursion (λ (one : ℕ × Document). CoversAt (cond (nat_le (h + 1) one.0) (give_joined n gives one.0) None) (give_joined n (set gives part next) one.0) need) docs
  passes_joined docs up first = go 0 docs up (none_before (give_joined n gives) 0 h docs up first)
