-- Where a value is put.
use Rattle.std.proofs.Common.{◌≡◌, ◌≤◌, ◌+◌, ℕ, suc, Bool, true, false, not, ◌==◌, nat_lt, List, [], ◌∷◌, length, cond, fold, refl, sym, ap, ◌∙◌, arith}
use Rattle.std.proofs.lemmas.Bool.Decides.{nat_tests}
use Rattle.std.proofs.lemmas.List.Sums.{prefix_len-le-length}
use Rattle.std.specs.Prelude.{Option, Some, None, unwrap_or, position}
use Rattle.std.specs.List.{position_or_len, insert}
use Rattle.sk_base.specs.declared.doc_entry.SlotValue.{SlotValue}
use Rattle.sk_model.specs.Documents.{with_value, given_value}

found_step : (k n : ℕ) (b : Bool) → nat_lt k n ≡ b → k ≤ n → unwrap_or (cond b (Some k) None) n ≡ k
found_step k n true e h = refl
found_step k n false e h = grind (arith, nat_tests)

found_place : {X : Type 0} (p : X → Bool) (xs : List X) → unwrap_or (position p xs) (length xs) ≡ position_or_len p xs
found_place p xs = found_step (position_or_len p xs) (length xs) (nat_lt (position_or_len p xs) (length xs)) refl (prefix_len-le-length (λ x. not (p x)) xs)

-- the value is of a higher slot than this one
abbrev pub above : ℕ → SlotValue → Bool
above slot one = nat_lt slot one.slot

put_step : (v one : SlotValue) (more : List SlotValue) (k next : ℕ) (b : Bool) → next ≡ suc k → insert more k v ≡ with_value more v
    → insert (one ∷ more) (cond (not b) next 0) v ≡ cond b (v ∷ one ∷ more) (one ∷ with_value more v)
put_step v one more k next true e h = refl
put_step v one more k next false e h = ap (λ n. insert (one ∷ more) n v) e ∙ ap (λ vs. one ∷ vs) h

put_at : (v : SlotValue) (values : List SlotValue) → insert values (position_or_len (above v.slot) values) v ≡ with_value values v
put_at v [] = refl
put_at v (one ∷ more) =
    let k = position_or_len (above v.slot) more in
    put_step v one more k (1 + k) (above v.slot one) (omega arith) (put_at v more)

-- the place that is found is that before the first value of a higher slot, or the end
pub place_is : (slot place len : ℕ) (first : Option ℕ) (seen values : List SlotValue) → place ≡ unwrap_or first len → first ≡ position (above slot) seen → seen ≡ values → len ≡ length values
    → place ≡ position_or_len (above slot) values
place_is slot place len first seen values is found same all =
    is ∙ ap (λ o. unwrap_or o len) (found ∙ ap (position (above slot)) same) ∙ ap (unwrap_or (position (above slot) values)) all ∙ found_place (above slot) values

pub place_within : (slot place : ℕ) (values : List SlotValue) → place ≡ position_or_len (above slot) values → place ≤ length values
place_within slot place values h = omega (arith, h, prefix_len-le-length (λ one. not (above slot one)) values)

has_bytes : (n : ℕ) (empty : Bool) → empty ≡ (n == 0) → empty ≡ false → nat_lt 0 n ≡ true
has_bytes n empty is full = grind (arith, nat_tests)

-- a value that is put there is put in its place
pub put_there : (slot place : ℕ) (value kept : List ℕ) (values new : List SlotValue) (empty : Bool) → empty ≡ (length value == 0) → empty ≡ false → kept ≡ value
    → place ≡ position_or_len (above slot) values → new ≡ insert values place (record { slot = slot; value = kept }) → new ≡ fold with_value values (given_value slot value)
put_there slot place value kept values new empty is full same h put =
    let v : SlotValue = record { slot = slot; value = value } in
    put ∙ (λ i. insert values (h i) (record { slot = slot; value = same i })) ∙ put_at v values
    ∙ sym (ap (λ b. fold with_value values (cond b (v ∷ []) [])) (has_bytes (length value) empty is full))
