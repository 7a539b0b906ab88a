-- That what nodes keep of their sides is so, and what a change of a node keeps.
use Rattle.std.specs.Prelude.{◌≡◌, ◌≤◌, ◌<◌, ◌+◌, ◌^◌, ℕ, true, Some}
use Rattle.sk_index.specs.Indexed.{Indexed}
use Rattle.sk_model.specs.Covers.{Covers}
use Rattle.sk_decay.specs.Heads.{IsHead}
use Rattle.sk_nodes.specs.declared.top.Top.{Top}
use Rattle.sk_nodes.specs.Leaves.{AtMost, IsLeafOn}
use Rattle.sk_nodes.specs.RangeNode.{IsRangeOn}
use Rattle.sk_nodes.specs.declared.proximity.Proximity.{Proximity}
use Rattle.sk_nodes.specs.Proximity.{holds_in, IsInAll, CanTest}
use Rattle.sk_nodes.specs.Shapes.{Shape, ended, leaf, range, pair, xor_many, or_many, positional, synonym, Sides, no_sides, side, size_of}
use Rattle.sk_nodes.specs.Left.{rest, from_on, unread_of, greatest_sum, greatest_held}

-- A node's head, and how much it can weigh, are those of what it still gives.
pub record IsTop (i : Indexed) (t : Top) (s : Shape) : Type 0 where
  pub head : IsHead t.head t.weight (rest i s)
  pub bound : AtMost t.greatest (rest i s)
  pub summed : t.head < 2 ^ 32 → t.greatest ≤ greatest_held s
  pub closed : t.head ≡ 2 ^ 32 → t.greatest ≡ 0

-- Two sides with their tops, by what holds of each.
pub record IsPair (i : Indexed) (ta : Top) (a : Shape) (tb : Top) (b : Shape) (A B : Type 0) : Type 0 where
  pub first : IsTop i ta a
  pub second : IsTop i tb b
  pub first_sound : A
  pub second_sound : B
  pub fits : ta.greatest + tb.greatest < 2 ^ 127

-- A side with its top, by what holds of it and of the others.
pub record IsFirstSide (i : Indexed) (t : Top) (s : Shape) (A B : Type 0) : Type 0 where
  pub top : IsTop i t s
  pub sound : A
  pub others : B

-- The sides of an xor or of an or of many sides, by what holds of them.
pub record IsMany (ss : Sides) (A : Type 0) : Type 0 where
  pub sides : A
  pub fits : greatest_sum ss < 2 ^ 127

-- A test of what a node gives, which has all the terms, with its top, by what holds of it. No document before `next` is read any more: where the node stands before that, the terms stand so.
pub record IsPositional (i : Indexed) (p : Proximity) (t : Top) (s : Shape) (A : Type 0) : Type 0 where
  pub test : CanTest i p
  pub top : IsTop i t s
  pub sound : A
  pub within : (id w : ℕ) → rest i s id ≡ Some w → IsInAll i id p.numbers.items
  pub ahead : p.next ≤ t.head + 1
  pub small : p.next ≤ 2 ^ 32
  pub known : t.head < p.next → holds_in i p t.head ≡ true

-- The sums of wdfs that a node gives, with its top: each is below 2^29, as a wdf is, and can be weighed under the factor.
pub record IsSynonym (i : Indexed) (factor : ℕ) (t : Top) (s : Shape) (A : Type 0) : Type 0 where
  pub top : IsTop i t s
  pub sound : A
  pub bounded : factor ≤ 65536
  pub small : t.greatest < 2 ^ 29

abbrev mutual
  -- All that is kept in a node is so.
  pub Sound : Indexed → Shape → Type 0
  Sound i ended = Unit {0}
  Sound i (leaf l) = IsLeafOn i l
  Sound i (range r) = IsRangeOn i r
  Sound i (pair form ta a tb b) = IsPair i ta a tb b (Sound i a) (Sound i b)
  Sound i (xor_many ss) = IsMany ss (AreSound i ss)
  Sound i (or_many ss) = IsMany ss (AreSound i ss)
  Sound i (positional p t s) = IsPositional i p t s (Sound i s)
  Sound i (synonym scheme factor t s) = IsSynonym i factor t s (Sound i s)

  -- All that is kept in sides and beside them is so.
  pub AreSound : Indexed → Sides → Type 0
  AreSound i no_sides = Unit {0}
  AreSound i (side t s ss) = IsFirstSide i t s (Sound i s) (AreSound i ss)

-- A node was put in the place of another, and covers what that gave.
pub record Replaces (i : Indexed) (need : ℕ) (old new : Shape) : Type 0 where
  pub sound : Sound i new
  pub covers : Covers (rest i old) (rest i new) need
  pub smaller : size_of new ≤ size_of old
  pub unread : unread_of i new ≤ unread_of i old

-- A node was moved on to a target under a need: what it gives covers what it gave from there on, and its top, which stands at the target
-- or behind it, is that of what it gives.
pub record Lands (i : Indexed) (target need : ℕ) (before after : Shape) (t : Top) : Type 0 where
  pub top : IsTop i t after
  pub sound : Sound i after
  pub covers : Covers (from_on target (rest i before)) (rest i after) need
  pub reached : target ≤ t.head
