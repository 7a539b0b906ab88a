-- Nodes in which one list leads: what the lists that follow may still read.
use Rattle.std.specs.Prelude.{◌≡◌, ◌≤◌, ◌<◌, ◌+◌, ◌*◌, ◌^◌, ◌⊎◌, ◌&&◌, ℕ, min, nat_lt, [], ◌∷◌, if◌then◌else◌}
use Rattle.sk_query.specs.declared.form.Form.{Form}
use Rattle.sk_chunks.specs.Postings.{Postings}
use Rattle.sk_lists.specs.Seeks.{count_to}
use Rattle.sk_index.specs.Indexed.{Indexed}
use Rattle.sk_nodes.specs.declared.top.Top.{Top}
use Rattle.sk_nodes.specs.declared.leaf.Leaf.{Leaf}
use Rattle.sk_nodes.specs.Leaves.{entries_of, head_of, leaf_unread}
use Rattle.sk_nodes.specs.Shapes.{Shape, ended, leaf, pair, or_many, Sides, no_sides, side}
use Rattle.sk_nodes.specs.Flat.{IsNest}

-- How many entries have ids behind a point.
abbrev pub count_behind : ℕ → Postings → ℕ
count_behind point [] = 0
count_behind point (p ∷ ps) = (if nat_lt point p.0 then 1 else 0) + count_behind point ps

-- A leaf, or nothing.
abbrev pub IsLone : Shape → Type 0
IsLone ended = Unit {0}
IsLone (leaf l) = Unit {0}
IsLone _ = ⊥

-- The head of the leaf that leads; 2 ^ 32 where there is none.
abbrev pub lead_head : Indexed → Shape → ℕ
lead_head i (leaf l) = head_of (entries_of i l)
lead_head i (pair form ta a tb b) = lead_head i a
lead_head i _ = 2 ^ 32

-- How many entries of its list the leaf that leads has not read.
abbrev pub lead_unread : Indexed → Shape → ℕ
lead_unread i (leaf l) = leaf_unread i l
lead_unread i (pair form ta a tb b) = lead_unread i a
lead_unread i _ = 0

-- A list whose head stands before that of the leading one may be sought once, and read 128 entries.
abbrev pub owed : ℕ → ℕ → ℕ
owed head own = if nat_lt own head && nat_lt head (2 ^ 32) then 128 else 0

abbrev mutual
  -- How much a side may still read that follows a leading list with this head and so many entries unread: of each leaf what it
  -- has not read, or 128 entries for each that the leading list has not read, and those that it is owed now, where that is less.
  pub follow_room : Indexed → ℕ → ℕ → Shape → ℕ
  follow_room i head unread (leaf l) = min (leaf_unread i l) (owed head (head_of (entries_of i l)) + 128 * unread)
  follow_room i head unread (pair form ta a tb b) = follow_room i head unread a + follow_room i head unread b
  follow_room i head unread (or_many ss) = follow_rooms i head unread ss
  follow_room i head unread _ = 0

  -- How much all sides may.
  pub follow_rooms : Indexed → ℕ → ℕ → Sides → ℕ
  follow_rooms i head unread no_sides = 0
  follow_rooms i head unread (side t s ss) = follow_room i head unread s + follow_rooms i head unread ss

-- How much a node in which a list leads may still read.
abbrev pub led_room : Indexed → Shape → ℕ
led_room i (leaf l) = leaf_unread i l
led_room i (pair form ta a tb b) = led_room i a + follow_room i (lead_head i a) (lead_unread i a) b
led_room i _ = 0

-- A node stands where its leading leaf does, or has ended.
abbrev pub IsAtLead : Indexed → Top → Shape → Type 0
IsAtLead i t s = (t.head ≡ lead_head i s) ⊎ (t.head ≡ 2 ^ 32)

-- What may follow under a form: one leaf, and in an and_not an or of leaves.
abbrev pub MayFollow : Form → Shape → Type 0
MayFollow Form.And s = IsLone s
MayFollow Form.AndMaybe s = IsLone s
MayFollow Form.Filter s = IsLone s
MayFollow Form.AndNot s = IsNest Form.Or s
MayFollow Form.Or s = ⊥
MayFollow Form.Xor s = ⊥
MayFollow Form.Max s = ⊥

-- A leaf, and what follows it, one side after another.
abbrev pub IsLed : Indexed → Shape → Type 0
IsLed i ended = Unit {0}
IsLed i (leaf l) = Unit {0}
IsLed i (pair form ta a tb b) = MayFollow form b × (IsAtLead i ta a × IsLed i a)
IsLed i _ = ⊥

-- A leading list went on: it read or passed over an entry, or stands where it did, or has ended.
abbrev pub Advances : ℕ → ℕ → ℕ → ℕ → Type 0
Advances head unread head2 unread2 = (unread2 < unread) ⊎ ((unread2 ≡ unread) × ((head2 ≡ head) ⊎ (head2 ≡ 2 ^ 32)))

-- A side that follows is sought from the head of the list that leads, or from the beginning.
abbrev pub IsFollowing : ℕ → ℕ → Type 0
IsFollowing target head = (target ≡ head) ⊎ (target ≡ 0)

-- A leaf was moved on from the target, with this spent before and after: it read 128 entries at most, and none where it stood
-- at the target or behind it.
pub record Walks (i : Indexed) (target : ℕ) (before after : ℕ) (old new : Leaf) : Type 0 where
  pub few : after ≤ before + 128
  pub still : target ≤ head_of (entries_of i old) → (after ≡ before) × (head_of (entries_of i new) ≡ head_of (entries_of i old))
  pub reached : target ≤ head_of (entries_of i new)
  pub advances : Advances (head_of (entries_of i old)) (leaf_unread i old) (head_of (entries_of i new)) (leaf_unread i new)
  pub to : (point : ℕ) → count_to point (entries_of i new) ≤ count_to point (entries_of i old)
  pub behind : (point : ℕ) → count_behind point (entries_of i new) ≤ count_behind point (entries_of i old)
  pub passed : (point : ℕ) → point < head_of (entries_of i old) → head_of (entries_of i old) < target → 1 + count_behind point (entries_of i new) ≤ count_behind point (entries_of i old)
