-- Joined ids and own ids.
use Rattle.std.proofs.Common.{◌∙◌, ◌≡◌, ◌≢◌, ℕ, zero, suc, ◌+◌, ◌-◌, ◌*◌, ◌/◌, ◌%◌, ◌<◌, ◌≤◌, ◌⊎◌, inl, inr, sym, ap, arith}
use Rattle.std.proofs.lemmas.Bool.{cases_lt}
use Rattle.std.proofs.lemmas.Nat.{div-mul-add, mod-mul-add, div-add-mod', mod_below, mul-le}
use Rattle.std.proofs.Math.Nat.{suc-mul}
use Rattle.sk_sorted.specs.Joined.{joined_id, part_of, own_id}

less : (n part own : ℕ) → joined_id n part own - 1 ≡ (own - 1) * n + part
less n part own = omega arith

pub own-joined : (n part own : ℕ) → part < n → 1 ≤ own → own_id n (joined_id n part own) ≡ own
own-joined n part own below begun =
    let whole : own_id n (joined_id n part own) ≡ (own - 1) + 1 = ap (λ k. k / n + 1) (less n part own) ∙ ap (λ k. k + 1) (div-mul-add (own - 1) n part below) in
    omega (arith, whole, begun)

pub part-joined : (n part own : ℕ) → part < n → part_of n (joined_id n part own) ≡ part
part-joined n part own below = ap (λ k. k % n) (less n part own) ∙ mod-mul-add (own - 1) n part below

pub joined-own : (n id : ℕ) → 1 ≤ id → joined_id n (part_of n id) (own_id n id) ≡ id
joined-own n id begun =
    let whole = div-add-mod' (id - 1) n in
    let one : own_id n id - 1 ≡ (id - 1) / n = omega arith in
    let times : (own_id n id - 1) * n ≡ (id - 1) / n * n = ap (λ k. k * n) one in
    omega (arith, whole, begun, times)

pub part_below : (n id : ℕ) → 0 < n → part_of n id < n
part_below n id some = mod_below (id - 1) n some

-- in a part ids and joined ids are in one order
pub joined-le : (n part a b : ℕ) → a ≤ b → joined_id n part a ≤ joined_id n part b
joined-le n part a b le = let times = mul-le (a - 1) n (b - 1) n (omega (arith, le)) (omega arith) in omega (arith, times)

pub joined-lt : (n part a b : ℕ) → 0 < n → 1 ≤ a → a < b → joined_id n part a < joined_id n part b
joined-lt n part a b some begun lt =
    let times = mul-le a n (b - 1) n (omega (arith, lt)) (omega arith) in
    let one : a * n ≡ (a - 1) * n + n = next a begun in
    omega (arith, times, one, some)
  where
    next : (c : ℕ) → 1 ≤ c → c * n ≡ (c - 1) * n + n
    next zero l = absurd (omega (arith, l))
    next (suc c) l = let e : suc c - 1 ≡ c = omega arith in suc-mul c n ∙ ap (λ k. k * n + n) (sym e)

pub own-lt : (n part a b : ℕ) → joined_id n part a < joined_id n part b → a < b
own-lt n part a b lt = by_order (cases_lt a b)
  where
    by_order : (a < b) ⊎ (b ≤ a) → a < b
    by_order (inl l) = l
    by_order (inr l) = absurd (omega (arith, lt, joined-le n part b a l))

-- an id of another part is another id
pub apart : (n part own id : ℕ) → part < n → part_of n id ≢ part → joined_id n part own ≢ id
apart n part own id below other same = other (sym (ap (part_of n) same) ∙ part-joined n part own below)
