-- The words on the values of a slot, computed.
use Rattle.std.proofs.Common.{◌≡◌, ℕ, List, [], ◌∷◌, drop, true, false, None, Some, refl}
use Rattle.sk_sorted.specs.Entries.{put, without}
use Rattle.sk_sorted.specs.Places.{id_at}
use Rattle.sk_values.specs.declared.range_cursor.RangeCursor.{RangeCursor}
use Rattle.sk_values.specs.declared.value.Held.TheVariants.{Short}
use Rattle.sk_values.specs.Held.{held_bytes}
use Rattle.sk_values.specs.SlotValues.{SlotValues, found_value, value_at_place}
use Rattle.sk_values.specs.RangeCursor.{in_range, unread, left, IsEndOf}
use Rattle.sk_values.specs.declared.zones.Zone.{Zone}
use Rattle.sk_values.specs.Behind.{is_behind}
use Rattle.sk_values.specs.Zones.{zone_of, meets, lies_in}

abbrev two : SlotValues
two = (1, 0 ∷ []) ∷ (4294967295, 97 ∷ 98 ∷ []) ∷ []

-- a value is found by its id, and an id that is not there has the empty one
first : found_value 1 two ≡ 0 ∷ []
first = refl

last : found_value 4294967295 two ≡ 97 ∷ 98 ∷ []
last = refl

nobody : found_value 7 two ≡ []
nobody = refl

-- a value in its place, another in the place of one, and one taken out
set_between : put 7 (99 ∷ []) two ≡ (1, 0 ∷ []) ∷ (7, 99 ∷ []) ∷ (4294967295, 97 ∷ 98 ∷ []) ∷ []
set_between = refl

set_again : found_value 1 (put 1 (5 ∷ []) two) ≡ 5 ∷ []
set_again = refl

cleared : found_value 1 (without 1 two) ≡ []
cleared = refl

-- what stands at a place
second_id : id_at two 1 ≡ 4294967295
second_id = refl

second_value : value_at_place two 1 ≡ 97 ∷ 98 ∷ []
second_value = refl

past_the_end : value_at_place two 2 ≡ []
past_the_end = refl

-- ---- a value as it is kept

abbrev zeros : List ℕ
zeros = 0 ∷ 0 ∷ 0 ∷ 0 ∷ 0 ∷ 0 ∷ 0 ∷ 0 ∷ []

-- behind its length a short value says nothing: no byte, one and eight differ
no_byte : held_bytes (Short zeros 0) ≡ []
no_byte = refl

one_byte : held_bytes (Short zeros 1) ≡ 0 ∷ []
one_byte = refl

eight_bytes : held_bytes (Short zeros 8) ≡ zeros
eight_bytes = refl

-- ---- ranges

-- three documents with a value
abbrev three : SlotValues
three = (1, 97 ∷ []) ∷ (4, 98 ∷ 0 ∷ []) ∷ (7, 99 ∷ []) ∷ []

-- both ends lie in the range, and a value is above its fronts
ends_inside : in_range (Some (97 ∷ [])) (Some (98 ∷ 0 ∷ [])) three ≡ (1, 97 ∷ []) ∷ (4, 98 ∷ 0 ∷ []) ∷ []
ends_inside = refl

longer_outside : in_range None (Some (98 ∷ [])) three ≡ (1, 97 ∷ []) ∷ []
longer_outside = refl

-- open at both ends, all values lie in it
open_ends : in_range None None three ≡ three
open_ends = refl

-- on the second entry, in a range from its value on
abbrev second : RangeCursor
second = record { place = record { piece = 0; read = 2; passed = 2; readings = 2 }; head = Some 4; bounds = record { lo = Some (98 ∷ []); hi = None } }

left_to_second : left second three ≡ (4, 98 ∷ 0 ∷ []) ∷ (7, 99 ∷ []) ∷ []
left_to_second = refl

unread_to_second : unread second three ≡ (7, 99 ∷ []) ∷ []
unread_to_second = refl

-- ended
nothing_left : left (record { place = record { piece = 1; read = 0; passed = 3; readings = 3 }; head = None; bounds = record { lo = None; hi = Some [] } }) three ≡ []
nothing_left = refl

-- 128 ids lie in a zone, the first of all from 1 on
zones : zone_of 1 ∷ zone_of 128 ∷ zone_of 129 ∷ [] ≡ 0 ∷ 0 ∷ 1 ∷ []
zones = refl

-- a zone of the numbers from 5 to 9 meets a range that begins at its greatest or ends at its least, and none behind or before it
abbrev few : Zone
few = record { least = 5; greatest = 9 }

at_its_ends : meets few 9 12 ∷ meets few 0 5 ∷ [] ≡ true ∷ true ∷ []
at_its_ends = refl

beside_it : meets few 10 12 ∷ meets few 0 4 ∷ [] ≡ false ∷ false ∷ []
beside_it = refl

-- the eight bytes of a number below 256
abbrev number_bytes : ℕ → List ℕ
number_bytes n = 0 ∷ 0 ∷ 0 ∷ 0 ∷ 0 ∷ 0 ∷ 0 ∷ n ∷ []

-- it lies in a span that has both of its ends, and in none that lacks one
in_spans : lies_in (record { least = 5; width = 4 }) few ∷ lies_in (record { least = 5; width = 3 }) few ∷ lies_in (record { least = 6; width = 9 }) few ∷ [] ≡ true ∷ false ∷ false ∷ []
in_spans = refl

-- what comes behind a number is above it, and in reverse below it
behind_seven : is_behind false (number_bytes 7) (number_bytes 8) ∷ is_behind false (number_bytes 7) (number_bytes 7) ∷ is_behind true (number_bytes 7) (number_bytes 6) ∷ is_behind true (number_bytes 7) (number_bytes 7) ∷ [] ≡ true ∷ false ∷ true ∷ false ∷ []
behind_seven = refl

-- the last two of three entries are the end of them, and the first two are not
end_of_three : IsEndOf (drop 1 three) three
end_of_three = refl
