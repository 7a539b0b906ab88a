-- Members and items, as a reader finds them.
use Rattle.std.proofs.Common.{◌≡◌, ◌≢◌, ◌+◌, ◌&&◌, ℕ, Bool, List, [], ◌∷◌, length, Some, None, String, Global, string_bytes, refl, ap, arith}
use Rattle.std.specs.List.{list_all}
use Rattle.std.proofs.lemmas.Bool.Decides.{nat_tests}
use Rattle.serde_json.specs.Data.{Data, null, boolean, number, string, array, object, Items, Members}
use Rattle.serde_json.specs.View.{items_view, members_view}
use Rattle.serde_json.specs.Find.{as_object, as_array}
use Rattle.serde_json.specs.declared.value.Value.{Value}
use Rattle.sk_base.specs.Rooms.{room_behind}
use Rattle.sk_json.specs.Values.{all_names, pair_of}

abbrev pub Entry : Type 0
Entry = String Global × Value

pub object_is : (d : Data) (ms : Members) → Some ms ≡ as_object d → d ≡ object ms
object_is null ms e = cc
object_is (boolean b) ms e = cc
object_is (number n) ms e = cc
object_is (string s) ms e = cc
object_is (array ds) ms e = cc
object_is (object ns) ms e = cc

pub array_is : (d : Data) (ds : Items) → Some ds ≡ as_array d → d ≡ array ds
array_is null ds e = cc
array_is (boolean b) ds e = cc
array_is (number n) ds e = cc
array_is (string s) ds e = cc
array_is (array es) ds e = cc
array_is (object ns) ds e = cc

pub all_names-members_view : (test : List ℕ → Bool) (es : List Entry) → all_names test (members_view es) ≡ list_all (λ e. test (string_bytes e.0)) es
all_names-members_view test [] = refl
all_names-members_view test (e ∷ es) = ap (λ b. test (string_bytes e.0) && b) (all_names-members_view test es)

pub not_two : (vs : List Value) → (length vs ≢ 2) → pair_of (items_view vs) ≡ None
not_two [] h = refl
not_two (v ∷ []) h = refl
not_two (v ∷ w ∷ []) h = absurd (h refl)
not_two (v ∷ w ∷ x ∷ vs) h = refl

-- a room behind two strings is the room behind both
pub room_behind-plus : (room m n left : ℕ) → Some left ≡ room_behind room m → room_behind room (m + n) ≡ room_behind left n
room_behind-plus room m n left e = grind (arith, nat_tests)

pub room_behind-none : (room m n : ℕ) → None ≡ room_behind room m → None ≡ room_behind room (m + n)
room_behind-none room m n e = grind (arith, nat_tests)
