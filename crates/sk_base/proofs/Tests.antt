-- What is known of two tests by their conjunction, and of two that say the same.
use Rattle.std.proofs.Common.{◌≡◌, Bool, true, false, ◌&&◌, refl, sym}
use Rattle.std.proofs.lemmas.Bool.{and_parts}

pub first_so : (a b : Bool) → (a && b) ≡ true → a ≡ true
first_so a b e = (and_parts a b e).0

pub second_so : (a b : Bool) → (a && b) ≡ true → b ≡ true
second_so a b e = (and_parts a b e).1

pub same_tests : (a b : Bool) → (a ≡ true → b ≡ true) → (b ≡ true → a ≡ true) → a ≡ b
same_tests true b f g = sym (f refl)
same_tests false true f g = g refl
same_tests false false f g = refl
