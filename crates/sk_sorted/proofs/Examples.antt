-- The words on entries, computed.
use Rattle.std.proofs.Common.{◌≡◌, ℕ, List, [], ◌∷◌, Some, None, refl}
use Rattle.sk_sorted.specs.Entries.{put, without, found, from, top_id, ids_of}
use Rattle.sk_sorted.specs.Places.{id_at}

abbrev three : List (ℕ × ℕ)
three = (2, 20) ∷ (5, 50) ∷ (9, 90) ∷ []

-- a new entry goes to its place
goes_between : put 6 60 three ≡ (2, 20) ∷ (5, 50) ∷ (6, 60) ∷ (9, 90) ∷ []
goes_between = refl

-- an id that is there takes what is put
takes_over : put 5 51 three ≡ (2, 20) ∷ (5, 51) ∷ (9, 90) ∷ []
takes_over = refl

-- one entry is taken out, and none where the id is not there
taken_out : without 2 three ≡ (5, 50) ∷ (9, 90) ∷ []
taken_out = refl

not_there : without 4 three ≡ three
not_there = refl

found_there : found 9 three ≡ Some 90
found_there = refl

found_nowhere : found 8 three ≡ None
found_nowhere = refl

-- a target that is there is not passed over
from_there : from 5 three ≡ (5, 50) ∷ (9, 90) ∷ []
from_there = refl

from_behind : from 10 three ≡ []
from_behind = refl

last : top_id 0 three ≡ 9
last = refl

ids : ids_of three ≡ 2 ∷ 5 ∷ 9 ∷ []
ids = refl

past_the_end : id_at three 3 ≡ 0
past_the_end = refl
