-- The words on postings, computed.
use Rattle.std.proofs.Common.{◌≡◌, [], ◌∷◌, None, Some, true, false, refl}
use Rattle.sk_sorted.specs.Entries.{put, without, from, first_id}
use Rattle.sk_sorted.specs.Runs.{flat}
use Rattle.sk_chunks.specs.Postings.{Postings, greatest_wdf, first_wdf, is_below}
use Rattle.sk_lists.specs.Lists.{Runs, one_run}
use Rattle.sk_lists.specs.Seeks.{count_below, count_to}
use Rattle.sk_lists.specs.Cursor.{rest_from, headed}

abbrev four : Postings
four = (1, 3) ∷ (4, 0) ∷ (7, 2) ∷ (4294967295, 5) ∷ []

-- the greatest wdf is looked for among all
greatest_last : greatest_wdf four ≡ 5
greatest_last = refl

greatest_written : greatest_wdf (put 7 9 four) ≡ 9
greatest_written = refl

greatest_written_over : greatest_wdf (put 7 1 (put 7 9 four)) ≡ 5
greatest_written_over = refl

greatest_taken_out : greatest_wdf (without 4294967295 four) ≡ 3
greatest_taken_out = refl

greatest_of_none : greatest_wdf [] ≡ 0
greatest_of_none = refl

-- where a target leads
at_the_target : first_id (from 4 four) ≡ Some 4
at_the_target = refl

behind_the_target : first_wdf (from 5 four) ≡ 2
behind_the_target = refl

at_the_last : first_id (from 8 four) ≡ Some 4294967295
at_the_last = refl

past_the_end : first_id (from 8 (without 4294967295 four)) ≡ None
past_the_end = refl

below_the_target : is_below 2 four ≡ true
below_the_target = refl

not_below_itself : is_below 1 four ≡ false
not_below_itself = refl

nothing_is_below : is_below 1 [] ≡ false
nothing_is_below = refl

-- how many entries lie below an id, and up to it
below_the_third : count_below 7 four ≡ 2
below_the_third = refl

to_the_third : count_to 7 four ≡ 3
to_the_third = refl

to_the_greatest_id : count_to 4294967295 four ≡ 4
to_the_greatest_id = refl

-- the same entries in three chunks
abbrev chunks : Runs
chunks = ((1, 3) ∷ []) ∷ ((4, 0) ∷ (7, 2) ∷ []) ∷ ((4294967295, 5) ∷ []) ∷ []

all_chunks : flat chunks ≡ four
all_chunks = refl

-- what is unread within a chunk, and at its end
from_within : rest_from 1 1 chunks ≡ (7, 2) ∷ (4294967295, 5) ∷ []
from_within = refl

from_the_end_of_a_chunk : rest_from 1 2 chunks ≡ rest_from 2 0 chunks
from_the_end_of_a_chunk = refl

from_the_end : rest_from 3 0 chunks ≡ []
from_the_end = refl

-- what is left: the head, and then the unread; an ended cursor has neither
left_within : headed (Some (4, 0)) (rest_from 1 1 chunks) ≡ (4, 0) ∷ (7, 2) ∷ (4294967295, 5) ∷ []
left_within = refl

left_at_the_end : headed None (rest_from 3 0 chunks) ≡ []
left_at_the_end = refl

-- a list of one chunk, and one without entries
one_chunk : one_run four ≡ four ∷ []
one_chunk = refl

no_chunk : one_run [] ≡ []
no_chunk = refl
