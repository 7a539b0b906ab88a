-- Two sides under a need: what they cover, and their bounds.
use Rattle.std.proofs.Common.{◌≡◌, ◌≤◌, ℕ, true, [], ◌∷◌, Option, None, Some, unwrap_or, refl, subst, arith}
use Rattle.sk_query.specs.declared.form.Form.{Form}
use Rattle.sk_model.specs.Combining.{combined}
use Rattle.sk_model.specs.Covers.{CoversAt, first_need, second_need}
use Rattle.sk_model.proofs.CoverLaws.{two_and, two_or, two_xor, two_max, two_not, two_maybe, two_filter, sides_cover}
use Rattle.sk_decay.specs.Sides.{paired, greatest_under, is_led}

pub paired-combined : (form : Form) (a b : Option ℕ) → combined form (a ∷ b ∷ []) ≡ paired form a b
paired-combined Form.And a b = two_and a b
paired-combined Form.Or a b = two_or a b
paired-combined Form.Xor a b = two_xor a b
paired-combined Form.Max a b = two_max a b
paired-combined Form.AndNot a b = two_not a b
paired-combined Form.AndMaybe a b = two_maybe a b
paired-combined Form.Filter a b = two_filter a b

-- two sides that cover make what covers
pub paired-covers : (form : Form) (a b a2 b2 : Option ℕ) (ga gb need : ℕ) → unwrap_or b 0 ≤ gb → unwrap_or a2 0 ≤ ga
    → CoversAt a a2 (first_need form need gb) → CoversAt b b2 (second_need form need ga) → CoversAt (paired form a b) (paired form a2 b2) need
paired-covers form a b a2 b2 ga gb need before after h g =
    subst (λ o. CoversAt o (paired form a2 b2) need) (paired-combined form a b)
    (subst (λ o. CoversAt (combined form (a ∷ b ∷ [])) o need) (paired-combined form a2 b2)
    (sides_cover form a b a2 b2 ga gb need before after h g))

-- no weight under a form is above what its sides allow
pub paired-bound : (form : Form) (a b : Option ℕ) (ga gb : ℕ) → unwrap_or a 0 ≤ ga → unwrap_or b 0 ≤ gb → unwrap_or (paired form a b) 0 ≤ greatest_under form ga gb
paired-bound Form.And None b ga gb h g = omega arith
paired-bound Form.And (Some v) None ga gb h g = omega arith
paired-bound Form.And (Some v) (Some w) ga gb h g = omega (arith, h, g)
paired-bound Form.Or None b ga gb h g = omega (arith, h, g)
paired-bound Form.Or (Some v) None ga gb h g = omega (arith, h, g)
paired-bound Form.Or (Some v) (Some w) ga gb h g = omega (arith, h, g)
paired-bound Form.Xor None b ga gb h g = omega (arith, h, g)
paired-bound Form.Xor (Some v) None ga gb h g = omega (arith, h, g)
paired-bound Form.Xor (Some v) (Some w) ga gb h g = omega arith
paired-bound Form.Max None b ga gb h g = omega (arith, h, g)
paired-bound Form.Max (Some v) None ga gb h g = omega (arith, h, g)
paired-bound Form.Max (Some v) (Some w) ga gb h g = omega (arith, h, g)
paired-bound Form.AndNot a None ga gb h g = h
paired-bound Form.AndNot a (Some w) ga gb h g = omega arith
paired-bound Form.AndMaybe None b ga gb h g = omega arith
paired-bound Form.AndMaybe (Some v) None ga gb h g = omega (arith, h, g)
paired-bound Form.AndMaybe (Some v) (Some w) ga gb h g = omega (arith, h, g)
paired-bound Form.Filter a None ga gb h g = omega arith
paired-bound Form.Filter a (Some w) ga gb h g = h

-- a form that is led gives nothing where its first side gives nothing
pub paired-led : (form : Form) (b : Option ℕ) → is_led form ≡ true → paired form None b ≡ None
paired-led Form.And b led = refl
paired-led Form.Or b led = cc
paired-led Form.Xor b led = cc
paired-led Form.Max b led = cc
paired-led Form.AndNot None led = refl
paired-led Form.AndNot (Some w) led = refl
paired-led Form.AndMaybe b led = refl
paired-led Form.Filter None led = refl
paired-led Form.Filter (Some w) led = refl

-- two sides without weight make none
pub paired-none : (form : Form) → paired form None None ≡ None
paired-none Form.And = refl
paired-none Form.Or = refl
paired-none Form.Xor = refl
paired-none Form.Max = refl
paired-none Form.AndNot = refl
paired-none Form.AndMaybe = refl
paired-none Form.Filter = refl
