-- What is kept of a chunk of postings.
use Rattle.std.specs.Prelude.{◌≡◌, ◌≤◌, ℕ, length}
use Rattle.sk_sorted.specs.Entries.{AreSorted, top_id}
use Rattle.sk_chunks.specs.Postings.{Postings, greatest_wdf}

-- At most 128 entries in order of their ids; kept are the last id and the greatest wdf, 0 where there is no entry.
pub record IsChunk (ps : Postings) (last greatest : ℕ) : Type 0 where
  pub sorted : AreSorted ps
  pub last_is : top_id 0 ps ≡ last
  pub greatest_is : greatest_wdf ps ≡ greatest
  pub few : length ps ≤ 128
