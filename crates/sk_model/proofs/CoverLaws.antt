-- What covers what was left, at one id.
use Rattle.std.proofs.Common.{◌≡◌, ◌≤◌, ◌<◌, ◌-◌, ℕ, unwrap_or, [], ◌∷◌, Option, None, Some, is_some, is_none, refl, sym, ap, subst, ◌∙◌, inl, inr, arith, le_refl}
use Rattle.std.proofs.lemmas.Bool.{cases_lt}
use Rattle.std.proofs.lemmas.Grind.{common_steps}
use Rattle.sk_query.specs.declared.form.Form.{Form}
use Rattle.sk_model.specs.Combining.{both, either, greater, where_so, with_more, combined}
use Rattle.sk_model.specs.Laws.{one_of}
use Rattle.sk_model.specs.Covers.{CoversAt, first_need, second_need}
use Rattle.sk_model.proofs.CombiningLaws.{both-end, either-end, greater-end}

pub covers_itself : (a : Option ℕ) (need : ℕ) → CoversAt a a need
covers_itself None need = tt
covers_itself (Some v) need = (le_refl v, λ _. refl)

-- what covers under a need covers under a greater one
pub covers_weaker : (a b : Option ℕ) (m n : ℕ) → m ≤ n → CoversAt a b m → CoversAt a b n
covers_weaker None None m n le h = tt
covers_weaker None (Some w) m n le h = h
covers_weaker (Some v) None m n le h = omega (arith, le, h)
covers_weaker (Some v) (Some w) m n le h = (h.0, λ g. h.1 (omega (arith, le, g)))

-- one after the other, where the need does not fall
pub covers_then : (a b c : Option ℕ) (m n : ℕ) → m ≤ n → CoversAt a b m → CoversAt b c n → CoversAt a c n
covers_then None None c m n le h g = g
covers_then None (Some w) c m n le h g = absurd h
covers_then (Some v) None None m n le h g = omega (arith, le, h)
covers_then (Some v) None (Some u) m n le h g = absurd g
covers_then (Some v) (Some w) None m n le h g = light v w m n le h.0 h.1 g
  where
    light : (v w m n : ℕ) → m ≤ n → w ≤ v → (m ≤ v → w ≡ v) → w < n → v < n
    light v w m n le small same less =
        elim (cases_lt v m) as (λ _. v < n) [
          | inl before ↦ omega (arith, le, before)
          | inr from ↦ let e : w ≡ v = same from in omega (arith, e, less)
        ]
covers_then (Some v) (Some w) (Some u) m n le h g = whole v w u m n le h.0 h.1 g.0 g.1
  where
    whole : (v w u m n : ℕ) → m ≤ n → w ≤ v → (m ≤ v → w ≡ v) → u ≤ w → (n ≤ w → u ≡ w) → (u ≤ v) × (n ≤ v → u ≡ v)
    whole v w u m n le small same smaller too = (
      omega (arith, small, smaller),
      λ h.
          let e : w ≡ v = same (omega (arith, le, h)) in
          let f : u ≡ w = too (omega (arith, e, h)) in
          f ∙ e,
    )

-- without a need nothing is passed over
pub covers_exactly : (a b : Option ℕ) → CoversAt a b 0 → b ≡ a
covers_exactly None None h = refl
covers_exactly None (Some w) h = absurd h
covers_exactly (Some v) None h = absurd (omega (arith, h))
covers_exactly (Some v) (Some w) h = ap Some (h.1 (omega arith))

-- ---- two sides

-- a side that covers, by cases: nothing before and after, passed over, or left
or_covers : (a b a2 b2 : Option ℕ) (ga gb need : ℕ) → unwrap_or b 0 ≤ gb → unwrap_or a2 0 ≤ ga → CoversAt a a2 (need - gb) → CoversAt b b2 (need - ga) → CoversAt (either a b) (either a2 b2) need
or_covers a b a2 b2 ga gb need before after h g = grind (arith, common_steps)

and_covers : (a b a2 b2 : Option ℕ) (ga gb need : ℕ) → unwrap_or b 0 ≤ gb → unwrap_or a2 0 ≤ ga → CoversAt a a2 (need - gb) → CoversAt b b2 (need - ga) → CoversAt (both a b) (both a2 b2) need
and_covers a b a2 b2 ga gb need before after h g = grind (arith, common_steps)

maybe_covers : (a b a2 b2 : Option ℕ) (ga gb need : ℕ) → unwrap_or b 0 ≤ gb → unwrap_or a2 0 ≤ ga → CoversAt a a2 (need - gb) → CoversAt b b2 (need - ga) → CoversAt (with_more a b) (with_more a2 b2) need
maybe_covers a b a2 b2 ga gb need before after h g = grind (arith, common_steps)

max_covers : (a b a2 b2 : Option ℕ) (need : ℕ) → CoversAt a a2 need → CoversAt b b2 need → CoversAt (greater a b) (greater a2 b2) need
max_covers a b a2 b2 need h g = grind (arith, common_steps)

xor_covers : (a b a2 b2 : Option ℕ) (need : ℕ) → CoversAt a a2 0 → CoversAt b b2 0 → CoversAt (one_of a b) (one_of a2 b2) need
xor_covers a b a2 b2 need h g = grind (arith, common_steps)

not_covers : (a b a2 b2 : Option ℕ) (need : ℕ) → CoversAt a a2 need → CoversAt b b2 0 → CoversAt (where_so (is_none b) a) (where_so (is_none b2) a2) need
not_covers a b a2 b2 need h g = grind (arith, common_steps)

filter_covers : (a b a2 b2 : Option ℕ) (need : ℕ) → CoversAt a a2 need → CoversAt b b2 0 → CoversAt (where_so (is_some b) a) (where_so (is_some b2) a2) need
filter_covers a b a2 b2 need h g = grind (arith, common_steps)

-- what a form makes of two sides
pub two_and : (a b : Option ℕ) → combined Form.And (a ∷ b ∷ []) ≡ both a b
two_and a b = ap (both a) (both-end b)

pub two_or : (a b : Option ℕ) → combined Form.Or (a ∷ b ∷ []) ≡ either a b
two_or a b = ap (either a) (either-end b)

pub two_xor : (a b : Option ℕ) → combined Form.Xor (a ∷ b ∷ []) ≡ one_of a b
two_xor None None = refl
two_xor None (Some w) = refl
two_xor (Some v) None = refl
two_xor (Some v) (Some w) = refl

pub two_max : (a b : Option ℕ) → combined Form.Max (a ∷ b ∷ []) ≡ greater a b
two_max a b = ap (greater a) (greater-end b)

pub two_not : (a b : Option ℕ) → combined Form.AndNot (a ∷ b ∷ []) ≡ where_so (is_none b) a
two_not a None = refl
two_not a (Some w) = refl

pub two_maybe : (a b : Option ℕ) → combined Form.AndMaybe (a ∷ b ∷ []) ≡ with_more a b
two_maybe a b = ap (with_more a) (either-end b)

pub two_filter : (a b : Option ℕ) → combined Form.Filter (a ∷ b ∷ []) ≡ where_so (is_some b) a
two_filter a b = ap (λ o. where_so (is_some o) a) (both-end b)

along : (a b c d : Option ℕ) (need : ℕ) → a ≡ c → b ≡ d → CoversAt c d need → CoversAt a b need
along a b c d need e f h = subst (λ o. CoversAt o b need) (sym e) (subst (λ o. CoversAt c o need) (sym f) h)

-- two sides that cover make what covers
pub sides_cover : (form : Form) (a b a2 b2 : Option ℕ) (ga gb need : ℕ) → unwrap_or b 0 ≤ gb → unwrap_or a2 0 ≤ ga
    → CoversAt a a2 (first_need form need gb) → CoversAt b b2 (second_need form need ga) → CoversAt (combined form (a ∷ b ∷ [])) (combined form (a2 ∷ b2 ∷ [])) need
sides_cover Form.And a b a2 b2 ga gb need before after h g = along _ _ _ _ need (two_and a b) (two_and a2 b2) (and_covers a b a2 b2 ga gb need before after h g)
sides_cover Form.Or a b a2 b2 ga gb need before after h g = along _ _ _ _ need (two_or a b) (two_or a2 b2) (or_covers a b a2 b2 ga gb need before after h g)
sides_cover Form.Xor a b a2 b2 ga gb need before after h g = along _ _ _ _ need (two_xor a b) (two_xor a2 b2) (xor_covers a b a2 b2 need h g)
sides_cover Form.Max a b a2 b2 ga gb need before after h g = along _ _ _ _ need (two_max a b) (two_max a2 b2) (max_covers a b a2 b2 need h g)
sides_cover Form.AndNot a b a2 b2 ga gb need before after h g = along _ _ _ _ need (two_not a b) (two_not a2 b2) (not_covers a b a2 b2 need h g)
sides_cover Form.AndMaybe a b a2 b2 ga gb need before after h g = along _ _ _ _ need (two_maybe a b) (two_maybe a2 b2) (maybe_covers a b a2 b2 ga gb need before after h g)
sides_cover Form.Filter a b a2 b2 ga gb need before after h g = along _ _ _ _ need (two_filter a b) (two_filter a2 b2) (filter_covers a b a2 b2 need h g)
