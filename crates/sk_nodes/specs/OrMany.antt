-- The sides of an or of many sides: how they are moved.
use Rattle.std.specs.Prelude.{◌≡◌, ◌≤◌, ◌<◌, ◌+◌, ◌^◌, ℕ, unwrap_or}
use Rattle.sk_query.specs.declared.form.Form.{Form}
use Rattle.sk_model.specs.Combining.{sum_of_any}
use Rattle.sk_index.specs.Indexed.{Indexed}
use Rattle.sk_decay.specs.Heads.{NoneBelow}
use Rattle.sk_nodes.specs.Shapes.{ended, or_many, Sides, no_sides, side, sizes_in}
use Rattle.sk_nodes.specs.Sound.{AreSound}
use Rattle.sk_nodes.specs.Left.{rest, rests, unread_in, greatest_sum}
use Rattle.sk_nodes.specs.Flat.{rooms_to, AreFlat, AreNests}
use Rattle.sk_nodes.specs.Led.{follow_rooms, IsFollowing}
use Rattle.sk_nodes.specs.Skips.{WeighsBelow}

-- Sides of terms alone were moved on from the target without a need, with this spent before and after: what is spent and what is left up to a point together have not grown, nor where they follow a list what they may still read for it.
pub record AreKept (i : Indexed) (target before after : ℕ) (old new : Sides) : Type 0 where
  pub flat : AreFlat old → AreFlat new
  pub paid : (point : ℕ) → AreFlat old → target ≤ point + 1 → after + rooms_to i point new ≤ before + rooms_to i point old
  pub nests : AreNests Form.Or old → AreNests Form.Or new
  pub nests_paid : (head unread : ℕ) → IsFollowing target head → AreNests Form.Or old → after + follow_rooms i head unread new ≤ before + follow_rooms i head unread old

-- Sides were moved on from the target, with this spent before and after: they stay sound and are no more nodes, they weigh no more together,
-- and those of terms alone are kept so.
pub record AreMoved (i : Indexed) (target before after : ℕ) (old new : Sides) : Type 0 where
  pub sound : AreSound i new
  pub falls : greatest_sum new ≤ greatest_sum old
  pub smaller : sizes_in new ≤ sizes_in old
  pub kept : AreKept i target before after old new

-- The sides that lead were sought from an id on, under a need: what lies before the head weighs too little, and from that id on all gives what it gave. The head is not behind the last one, which was known before.
pub record HaveLed (i : Indexed) (need from last head : ℕ) (old new : Sides) : Type 0 where
  pub same : (id : ℕ) → from ≤ id → rests i new id ≡ rests i old id
  pub light : (id : ℕ) → id < head → WeighsBelow need (sum_of_any (rests i new id))
  pub further : from ≤ head
  pub within : head ≤ last

-- All sides were sought to an id, where other sides weigh so much: this is the total there, or a lesser weight where both are less than the need.
pub record AreWeighed (i : Indexed) (need id others total : ℕ) (old new : Sides) : Type 0 where
  pub same : (further : ℕ) → id ≤ further → rests i new further ≡ rests i old further
  pub light : total < need → others + unwrap_or (sum_of_any (rests i new id)) 0 < need
  pub full : need ≤ total → total ≡ others + unwrap_or (sum_of_any (rests i new id)) 0
  pub below : need ≤ total → NoneBelow id (rest i (or_many new))

-- Nothing is left of any side.
abbrev pub AreEnded : Sides → Type 0
AreEnded no_sides = Unit {0}
AreEnded (side t s ss) = ((t ≡ record { head = 2 ^ 32; weight = 0; greatest = 0 }) × (s ≡ ended)) × AreEnded ss

-- The same sides in another order.
pub record AreReordered (i : Indexed) (old new : Sides) : Type 0 where
  pub sound : AreSound i old → AreSound i new
  pub same : (id : ℕ) → sum_of_any (rests i new id) ≡ sum_of_any (rests i old id)
  pub greatest : greatest_sum new ≡ greatest_sum old
  pub unread : unread_in i new ≡ unread_in i old
  pub flat : AreFlat old → AreFlat new
  pub rooms : (point : ℕ) → rooms_to i point new ≡ rooms_to i point old
  pub nests : AreNests Form.Or old → AreNests Form.Or new
  pub follows : (head unread : ℕ) → follow_rooms i head unread new ≡ follow_rooms i head unread old

-- The first of the sides can weigh no more than this.
abbrev pub BeginsWithin : ℕ → Sides → Type 0
BeginsWithin most no_sides = Unit {0}
BeginsWithin most (side t s ss) = t.greatest ≤ most

-- None of the sides can weigh more than the one before it.
abbrev pub AreFalling : Sides → Type 0
AreFalling no_sides = Unit {0}
AreFalling (side t s ss) = BeginsWithin t.greatest ss × AreFalling ss
