-- A place in a list: what a cursor has read, and what is left to it.
use Rattle.std.specs.Prelude.{◌≡◌, ◌<◌, ◌≤◌, ◌-◌, ◌+◌, ℕ, Option, None, Some, [], ◌∷◌, length, take, drop, get_or}
use Rattle.sk_sorted.specs.Entries.{LieBelow}
use Rattle.sk_sorted.specs.Runs.{flat}
use Rattle.sk_chunks.specs.Postings.{Postings}
use Rattle.sk_lists.specs.declared.cursor.Cursor.{Cursor}
use Rattle.sk_lists.specs.Lists.{Runs}

-- The entries from a place in a run on.
abbrev pub rest_from : ℕ → ℕ → Runs → Postings
rest_from run read runs = drop read (flat (drop run runs))

-- The entries that a cursor has not read and not passed over.
abbrev pub unread : Cursor → Runs → Postings
unread c runs = rest_from c.run c.read runs

-- The head, if any, and then the rest.
abbrev pub headed : Option (ℕ × ℕ) → Postings → Postings
headed None rest = []
headed (Some p) rest = p ∷ rest

-- What is left to a cursor: its head and then the unread; nothing where it has ended.
abbrev pub left : Cursor → Runs → Postings
left c runs = headed c.head (unread c runs)

-- The head is the entry of the run that was read last.
pub record IsReadLast (p : ℕ × ℕ) (run read : ℕ) (runs : Runs) : Type 0 where
  pub there : run < length runs
  pub begun : 0 < read
  pub within : read ≤ length (get_or runs run [])
  pub is : get_or (get_or runs run []) (read - 1) p ≡ p

-- The head belongs to the place: to an ended cursor nothing is left unread.
abbrev pub IsHeadAt : Option (ℕ × ℕ) → ℕ → ℕ → Runs → Type 0
IsHeadAt None run read runs = rest_from run read runs ≡ []
IsHeadAt (Some p) run read runs = IsReadLast p run read runs

-- A cursor's place and head are those of this list.
abbrev pub IsOn : Cursor → Runs → Type 0
IsOn c runs = IsHeadAt c.head c.run c.read runs

-- From one place of a run up to another this many entries were read: below the target all but the last, which is the head.
pub record IsReadTo (target before after count : ℕ) (head : Option (ℕ × ℕ)) (run : Postings) : Type 0 where
  pub counted : after ≡ before + count
  pub some : 1 ≤ count
  pub within : after ≤ length run
  pub below : LieBelow target (take (count - 1) (drop before run))
  pub last : ℕ × ℕ
  pub is : head ≡ Some last
  pub at : get_or run (after - 1) last ≡ last
  pub reached : target ≤ last.0
