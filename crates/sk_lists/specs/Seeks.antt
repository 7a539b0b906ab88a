-- What a seek passes over, and what it reads.
use Rattle.std.specs.Prelude.{◌≡◌, ◌<◌, ◌≤◌, ◌⊎◌, ℕ, ◌+◌, ◌-◌, false, nat_lt, [], ◌∷◌, ◌++◌, length, take, drop, if◌then◌else◌}
use Rattle.sk_sorted.specs.Entries.{LieBelow, top_id}
use Rattle.sk_chunks.specs.Postings.{Postings, greatest_wdf, is_below}

-- Each entry lies below the target, or is lighter than what is needed.
abbrev pub ArePassed : ℕ → ℕ → Postings → Type 0
ArePassed target need_wdf [] = Unit {0}
ArePassed target need_wdf (p ∷ ps) = ((p.0 < target) ⊎ (p.1 < need_wdf)) × ArePassed target need_wdf ps

-- What is left begins at the target or behind it, and no entry went that lies there and is wanted.
pub record PassesPostings (target need_wdf : ℕ) (old new : Postings) : Type 0 where
  pub passed : Postings
  pub is : old ≡ passed ++ new
  pub light : ArePassed target need_wdf passed
  pub reached : is_below target new ≡ false

-- What was read stands together in what was unread, none of it twice, and all but the last of it lies below the target.
pub record ReadsPostings (target count : ℕ) (old new : Postings) : Type 0 where
  pub skipped : ℕ
  pub is : new ≡ drop (skipped + count) old
  pub within : skipped + count ≤ length old
  pub one_beyond : LieBelow target (take (count - 1) (drop skipped old))

-- How many entries have ids below this one.
abbrev pub count_below : ℕ → Postings → ℕ
count_below id [] = 0
count_below id (p ∷ ps) = (if nat_lt p.0 id then 1 else 0) + count_below id ps

-- How many entries have ids up to this one.
abbrev pub count_to : ℕ → Postings → ℕ
count_to id ps = count_below (id + 1) ps

-- A walk through the entries that read so many, and has these left, read no more than stand up to the id, and one more.
abbrev pub HasReadTo : ℕ → ℕ → Postings → Postings → Type 0
HasReadTo id read left list = read + count_to id left ≤ 1 + count_to id list

-- A seek may pass over the whole run: it ends below the target, or no entry of it weighs what is needed.
abbrev pub IsSkipped : ℕ → ℕ → Postings → Type 0
IsSkipped target need_wdf run = (top_id 0 run < target) ⊎ (greatest_wdf run < need_wdf)

-- Each entry lies below the target or behind the last id, or is no heavier than the greatest.
abbrev pub AreWithin : ℕ → ℕ → ℕ → Postings → Type 0
AreWithin target last greatest [] = Unit {0}
AreWithin target last greatest (p ∷ ps) = ((p.0 < target) ⊎ ((last < p.0) ⊎ (p.1 ≤ greatest))) × AreWithin target last greatest ps
