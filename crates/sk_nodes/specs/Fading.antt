-- Nodes of two lists of which one fades: behind a point no entry of it is wanted by itself. The other list is read out.
use Rattle.std.specs.Prelude.{◌≡◌, ◌≤◌, ◌<◌, ◌+◌, ◌-◌, ◌*◌, ◌^◌, ◌⊎◌, ◌&&◌, ◌==◌, ℕ, nat_lt, nat_le, Bool, true, false, if◌then◌else◌}
use Rattle.sk_query.specs.declared.form.Form.{Form}
use Rattle.sk_index.specs.Indexed.{Indexed}
use Rattle.sk_lists.specs.Seeks.{count_to}
use Rattle.sk_nodes.specs.declared.top.Top.{Top}
use Rattle.sk_nodes.specs.Leaves.{entries_of, leaf_unread}
use Rattle.sk_nodes.specs.Shapes.{Shape, ended, leaf, pair}
use Rattle.sk_nodes.specs.Left.{greatest_held}
use Rattle.sk_nodes.specs.Flat.{room_to}
use Rattle.sk_nodes.specs.Led.{count_behind, IsLone, lead_head, lead_unread}

-- How many entries a leaf has left behind a point.
abbrev pub entries_behind : Indexed → ℕ → Shape → ℕ
entries_behind i point (leaf l) = count_behind point (entries_of i l)
entries_behind i point _ = 0

-- A side is a leaf or nothing, and its head is kept beside it.
pub record StandsOn (i : Indexed) (t : Top) (s : Shape) : Type 0 where
  pub lone : IsLone s
  pub at : t.head ≡ lead_head i s

-- Neither side has ended.
abbrev pub are_open : ℕ → ℕ → Bool
are_open a b = nat_lt a (2 ^ 32) && nat_lt b (2 ^ 32)

-- What a fading list may read that is sought from the head of the other alone, of which it was given a room: 128 entries of it are spent for an entry behind the point once the list was sought from there; nothing where one has ended. The head of the other list comes first.
abbrev pub following_room : ℕ → ℕ → ℕ → ℕ → ℕ
following_room point a b room = if are_open a b then (if nat_lt point a && nat_le a b then room - 128 else room) else 0

-- What a fading list may read that leads: where the two stand at one id behind the point, 128 entries are spent, and else it is 255 ahead; nothing where one has ended.
abbrev pub leading_room : ℕ → ℕ → ℕ → ℕ → ℕ
leading_room point a b room = if are_open a b then (if nat_lt point a && (a == b) then room - 128 else room + 255) else 0

-- What the fading list may read under a form, the other side being the first or not.
abbrev pub pair_room : Form → Bool → ℕ → ℕ → ℕ → ℕ → ℕ
pair_room Form.And true point a b room = following_room point a b room
pair_room Form.AndMaybe true point a b room = following_room point a b room
pair_room Form.And false point a b room = leading_room point a b room
pair_room _ first point a b room = room + 255

-- The fading list may read its entries up to the point, and 256 for each entry of the other behind it.
abbrev pub both_room : Indexed → ℕ → Shape → Shape → ℕ
both_room i point other fading = room_to i point fading + 256 * entries_behind i point other

-- How much a node of two lists may still read: the other list all that it has unread. The other is the first side, or the leaf itself, where `first` is true.
abbrev pub fading_room : Indexed → ℕ → Bool → Shape → ℕ
fading_room i point first ended = 0
fading_room i point true (leaf l) = leaf_unread i l
fading_room i point false (leaf l) = count_to point (entries_of i l)
fading_room i point true (pair form ta a tb b) = lead_unread i a + pair_room form true point ta.head tb.head (both_room i point a b)
fading_room i point false (pair form ta a tb b) = lead_unread i b + pair_room form false point tb.head ta.head (both_room i point b a)
fading_room i point first _ = 0

-- The forms of such a node: an or, and the and_maybe and the and that it becomes.
abbrev pub IsFadingForm : Form → Type 0
IsFadingForm Form.Or = Unit {0}
IsFadingForm Form.And = Unit {0}
IsFadingForm Form.AndMaybe = Unit {0}
IsFadingForm _ = ⊥

-- A node of two lists, or of the one that is left; nothing of the fading list weighs more than the greatest.
abbrev pub IsFading : Indexed → ℕ → Bool → Shape → Type 0
IsFading i greatest first ended = Unit {0}
IsFading i greatest true (leaf l) = Unit {0}
IsFading i greatest false (leaf l) = l.greatest ≤ greatest
IsFading i greatest true (pair form ta a tb b) = IsFadingForm form × (StandsOn i ta a × (StandsOn i tb b × (greatest_held b ≤ greatest)))
IsFading i greatest false (pair form ta a tb b) = IsFadingForm form × (StandsOn i ta a × (StandsOn i tb b × (greatest_held a ≤ greatest)))
IsFading i greatest first _ = ⊥

-- Two sides with these heads may be sought from a target: neither has ended, where nothing is given without the other list; and no further than from the id behind the point otherwise.
abbrev pub PairMayFade : Form → Bool → ℕ → ℕ → ℕ → ℕ → Type 0
PairMayFade Form.And first point target a b = (a < 2 ^ 32) × (b < 2 ^ 32)
PairMayFade Form.AndMaybe true point target a b = (a < 2 ^ 32) × (b < 2 ^ 32)
PairMayFade _ first point target a b = target ≤ point + 1

-- A node may be sought from a target.
abbrev pub MayFade : ℕ → ℕ → Bool → Shape → Type 0
MayFade point target first ended = Unit {0}
MayFade point target false (leaf l) = target ≤ point + 1
MayFade point target first (pair form ta a tb b) = PairMayFade form first point target ta.head tb.head
MayFade point target first _ = Unit {0}

-- A leaf was moved on from the target, with this spent before and after, and its top is this.
pub record LeafMoves (i : Indexed) (target before after : ℕ) (old : Shape) (top : Top) (new : Shape) : Type 0 where
  pub stands : StandsOn i top new
  pub few : after ≤ before + 128
  pub paid : after + lead_unread i new ≤ before + lead_unread i old
  pub near : (point : ℕ) → target ≤ point + 1 → after + room_to i point new ≤ before + room_to i point old
  pub to : (point : ℕ) → room_to i point new ≤ room_to i point old
  pub behind : (point : ℕ) → entries_behind i point new ≤ entries_behind i point old
  pub passed : (point : ℕ) → point < lead_head i old → lead_head i old < target → 1 + entries_behind i point new ≤ entries_behind i point old
  pub still : target ≤ lead_head i old → (after ≡ before) × (lead_head i new ≡ lead_head i old)
  pub reached : target ≤ lead_head i new
  pub greatest : greatest_held new ≤ greatest_held old

-- A node may be moved on from the target under the need: the target is at most the id behind the point, or nothing of the fading list is enough.
abbrev pub MayLeave : ℕ → ℕ → ℕ → ℕ → Type 0
MayLeave point greatest target need = (target ≤ point + 1) ⊎ (greatest < need)

-- One of the sides may have come to stand for the node, or both in the other order.
abbrev pub FadesTo : Indexed → ℕ → ℕ → ℕ → ℕ → Bool → Shape → Shape → Type 0
FadesTo i point greatest before after first old new = (now : Bool) × (IsFading i greatest now new × (after + fading_room i point now new ≤ before + fading_room i point first old))

-- A node was moved on from the target under the need, with this spent before and after: where it may be, what is spent and what may still be read together have not grown, whichever of the two fades.
abbrev pub FadesUnder : Indexed → ℕ → ℕ → ℕ → ℕ → Shape → Shape → Type 0
FadesUnder i target need before after old new = (point greatest : ℕ) (first : Bool) → IsFading i greatest first old → MayLeave point greatest target need → FadesTo i point greatest before after first old new
