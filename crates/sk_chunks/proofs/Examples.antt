-- The words on chunks, computed.
use Rattle.std.proofs.Common.{◌≡◌, ℕ, zero, suc, ◌+◌, [], ◌∷◌, ◌++◌, length, take, drop, Some, refl, lit<, lit≤}
use Rattle.byteorder.specs.Endian.{big_bytes, big_number}
use Rattle.sk_sorted.specs.Entries.{put, without, first_id, top_id}
use Rattle.sk_chunks.specs.Postings.{Postings, greatest_wdf}
use Rattle.sk_chunks.specs.Chunks.{IsChunk}

-- an entry's eight bytes, and what they spell
bytes : big_bytes 4 1 ++ big_bytes 4 3 ≡ 0 ∷ 0 ∷ 0 ∷ 1 ∷ 0 ∷ 0 ∷ 0 ∷ 3 ∷ []
bytes = refl

most : big_bytes 4 4294967295 ++ big_bytes 4 258 ≡ 255 ∷ 255 ∷ 255 ∷ 255 ∷ 0 ∷ 0 ∷ 1 ∷ 2 ∷ []
most = refl

spelled : big_number 4 (drop 4 (255 ∷ 255 ∷ 255 ∷ 255 ∷ 0 ∷ 0 ∷ 1 ∷ 2 ∷ [])) ≡ 258
spelled = refl

-- what is kept of three entries
abbrev three : Postings
three = (2, 20) ∷ (5, 50) ∷ (9, 9) ∷ []

chunk_of_three : IsChunk three 9 50
chunk_of_three = record {
  sorted = record { rise = (lit< tt, (lit< tt, (lit< tt, tt))); small = (lit< tt, (lit< tt, (lit< tt, tt))) };
  last_is = refl;
  greatest_is = refl;
  few = lit≤ tt;
}

-- the ids from 1 to 128, each as its own wdf but the first
abbrev filled_from : ℕ → ℕ → Postings → Postings
filled_from zero id ps = ps
filled_from (suc n) id ps = filled_from n (id + 1) (put id id ps)

abbrev full : Postings
full = filled_from 127 2 ((1, 3) ∷ [])

full_count : length full ≡ 128
full_count = refl

full_last : top_id 0 full ≡ 128
full_last = refl

full_greatest : greatest_wdf full ≡ 128
full_greatest = refl

-- its halves
front_first : first_id (take 64 full) ≡ Some 1
front_first = refl

front_last : top_id 0 (take 64 full) ≡ 64
front_last = refl

front_greatest : greatest_wdf (take 64 full) ≡ 64
front_greatest = refl

rest_first : first_id (drop 64 full) ≡ Some 65
rest_first = refl

rest_count : length (drop 64 full) ≡ 64
rest_count = refl

-- the last of the second half goes
rest_less : greatest_wdf (without 128 (drop 64 full)) ≡ 127
rest_less = refl

rest_less_last : top_id 0 (without 128 (drop 64 full)) ≡ 127
rest_less_last = refl
