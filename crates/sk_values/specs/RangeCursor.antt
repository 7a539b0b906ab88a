-- A place in a slot's list: what a cursor over a range has come past, and what is left to it.
use Rattle.std.specs.Prelude.{◌≡◌, ◌<◌, ◌≤◌, ◌-◌, ℕ, Bool, true, false, nat_lt, List, [], Option, None, Some, length, drop, filter}
use Rattle.sk_sorted.specs.Places.{id_at}
use Rattle.sk_sorted.specs.Runs.{flat, IsPlace}
use Rattle.sk_model.specs.Ranges.{is_within}
use Rattle.sk_values.specs.declared.range_cursor.Place.{Place}
use Rattle.sk_values.specs.declared.range_cursor.RangeCursor.{RangeCursor}
use Rattle.sk_values.specs.SlotValues.{SlotValues, SlotRuns, value_at_place}

-- The entries whose values lie in the range.
abbrev pub in_range : Option (List ℕ) → Option (List ℕ) → SlotValues → SlotValues
in_range lo hi list = filter (λ e. is_within lo hi e.1) list

-- The entries that a cursor has not come past, be it by reading them or by passing over them.
abbrev pub unread : RangeCursor → SlotValues → SlotValues
unread c list = drop c.place.passed list

-- How many entries a cursor has read.
abbrev pub readings : RangeCursor → ℕ
readings c = c.place.readings

-- The last ones of some entries, from one of them on.
abbrev pub IsEndOf : SlotValues → SlotValues → Type 0
IsEndOf rest all = rest ≡ drop (length all - length rest) all

-- The entries from the head on; none where there is no head.
abbrev pub ahead : Option ℕ → ℕ → SlotValues → SlotValues
ahead None read list = []
ahead (Some id) read list = drop (read - 1) list

-- What is left to a cursor: of the entries from its head on, those in the range.
abbrev pub left : RangeCursor → SlotValues → SlotValues
left c list = in_range c.bounds.lo c.bounds.hi (ahead c.head c.place.passed list)

-- The head is the id of the entry that was read last, and its value lies in the range.
pub record IsStop (lo hi : Option (List ℕ)) (id read : ℕ) (list : SlotValues) : Type 0 where
  pub begun : 0 < read
  pub within : read ≤ length list
  pub is : id_at list (read - 1) ≡ id
  pub inside : is_within lo hi (value_at_place list (read - 1)) ≡ true

-- The head belongs to the place: an ended cursor has come past all.
abbrev pub IsHeadAt : Option (List ℕ) → Option (List ℕ) → Option ℕ → ℕ → SlotValues → Type 0
IsHeadAt lo hi None read list = read ≡ length list
IsHeadAt lo hi (Some id) read list = IsStop lo hi id read list

-- The place is one of this list.
abbrev pub IsPlaceIn : Place → SlotRuns → Type 0
IsPlaceIn p runs = IsPlace runs p.piece p.read p.passed

-- A cursor's place and head are those of this list.
pub record IsOn (c : RangeCursor) (runs : SlotRuns) : Type 0 where
  pub place : IsPlaceIn c.place runs
  pub head : IsHeadAt c.bounds.lo c.bounds.hi c.head c.place.passed (flat runs)
  pub counted : readings c ≤ c.place.passed

-- Whether there is a head below the target.
abbrev pub is_head_below : ℕ → Option ℕ → Bool
is_head_below target None = false
is_head_below target (Some id) = nat_lt id target
