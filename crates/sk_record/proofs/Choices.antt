-- What holds of the value that a chain of options gives.
use Rattle.std.proofs.Common.{◌≡◌, ◌||◌, Bool, true, false, not, if◌then◌else◌, Option, Some, None, option_map, refl, subst}
use Rattle.std.specs.Option.{option_and_then}

pub some_is : {A : Type 0} (x y : A) → Some x ≡ Some y → x ≡ y
some_is x y e = cc

pub chained : {A B : Type 0} (P : B → Type 0) (f : A → Option B) (o : Option A) (y : B) → ((x : A) → o ≡ Some x → f x ≡ Some y → P y) → option_and_then f o ≡ Some y → P y
chained P f None y h e = cc
chained P f (Some x) y h e = h x refl e

pub mapped : {A B : Type 0} (P : B → Type 0) (f : A → B) (o : Option A) (y : B) → ((x : A) → o ≡ Some x → P (f x)) → option_map f o ≡ Some y → P y
mapped P f None y h e = cc
mapped P f (Some x) y h e = subst P (some_is (f x) y e) (h x refl)

pub guarded : {A : Type 0} (P : A → Type 0) (b : Bool) (o : Option A) (y : A) → (b ≡ true → o ≡ Some y → P y) → (if b then o else None) ≡ Some y → P y
guarded P true o y h e = h refl e
guarded P false o y h e = cc

pub either : {A : Type 0} (P : A → Type 0) (b : Bool) (o p : Option A) (y : A) → (o ≡ Some y → P y) → (p ≡ Some y → P y) → (if b then o else p) ≡ Some y → P y
either P true o p y h g e = h e
either P false o p y h g e = g e

pub first_false : (a b : Bool) → not (a || b) ≡ true → a ≡ false
first_false true b e = cc
first_false false b e = refl
