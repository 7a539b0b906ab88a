-- The words on parts, computed.
use Rattle.std.proofs.Common.{◌≡◌, ℕ, List, [], ◌∷◌, refl}
use Rattle.sk_sorted.specs.Joined.{joined_id, part_of, own_id, joined, part_in}

abbrev first : List (ℕ × ℕ)
first = (1, 10) ∷ (2, 40) ∷ []

abbrev second : List (ℕ × ℕ)
second = (2, 50) ∷ []

-- the parts take turns
joined_three : joined (first ∷ second ∷ [] ∷ []) ≡ (1, 10) ∷ (4, 40) ∷ (5, 50) ∷ []
joined_three = refl

joined_one : joined (first ∷ []) ≡ first
joined_one = refl

joined_none : joined {X = ℕ} ([] ∷ [] ∷ []) ≡ []
joined_none = refl

-- and each has its own back
part_second : part_in 3 1 ((1, 10) ∷ (4, 40) ∷ (5, 50) ∷ []) ≡ second
part_second = refl

-- the greatest id, in one part, in two and in sixteen
last_of_one : joined_id 1 0 (own_id 1 4294967295) ≡ 4294967295
last_of_one = refl

last_of_two : own_id 2 4294967295 ≡ 2147483648
last_of_two = refl

part_of_two : part_of 2 4294967295 ≡ 0
part_of_two = refl

part_of_sixteen : part_of 16 4294967295 ≡ 14
part_of_sixteen = refl

last_of_sixteen : own_id 16 4294967295 ≡ 268435456
last_of_sixteen = refl
