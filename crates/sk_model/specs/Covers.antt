-- What is left of a query's matches after some may be passed over, against what was left before.
-- Source: Own.
use Rattle.std.specs.Prelude.{◌≡◌, ◌≤◌, ◌<◌, ◌-◌, ℕ, Option, None, Some}
use Rattle.sk_query.specs.declared.form.Form.{Form}

-- At one id: what is left was left before and weighs no more, and what weighed at least the need is left as it was.
abbrev pub CoversAt : Option ℕ → Option ℕ → ℕ → Type 0
CoversAt None None need = Unit {0}
CoversAt None (Some w) need = ⊥
CoversAt (Some v) None need = v < need
CoversAt (Some v) (Some w) need = (w ≤ v) × (need ≤ v → w ≡ v)

-- At each id, the weights being given by functions.
abbrev pub Covers : (ℕ → Option ℕ) → (ℕ → Option ℕ) → ℕ → Type 0
Covers old new need = (id : ℕ) → CoversAt (old id) (new id) need

-- The need that the first of two sides is asked for, by the greatest weight of the second.
abbrev pub first_need : Form → ℕ → ℕ → ℕ
first_need Form.And need b = need - b
first_need Form.Or need b = need - b
first_need Form.Xor need b = 0
first_need Form.Max need b = need
first_need Form.AndNot need b = need
first_need Form.AndMaybe need b = need - b
first_need Form.Filter need b = need

-- The need that the second of two sides is asked for, by the greatest weight that is left of the first.
abbrev pub second_need : Form → ℕ → ℕ → ℕ
second_need Form.And need a = need - a
second_need Form.Or need a = need - a
second_need Form.Xor need a = 0
second_need Form.Max need a = need
second_need Form.AndNot need a = 0
second_need Form.AndMaybe need a = need - a
second_need Form.Filter need a = 0
