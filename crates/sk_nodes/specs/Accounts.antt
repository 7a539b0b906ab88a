-- What reading costs, and what pays for it.
use Rattle.std.specs.Prelude.{◌≡◌, ◌≤◌, ◌+◌, ℕ}
use Rattle.sk_nodes.specs.Shapes.{Shape}

-- What was spent was left unread before, each reading of it is counted, and none is taken back.
pub record Spends (unread left spent spent_after steps steps_after : ℕ) : Type 0 where
  pub paid : spent_after + left ≤ spent + unread
  pub counted : steps_after + spent ≡ steps + spent_after
  pub later : spent ≤ spent_after

-- The account of nodes of one kind: what one may still read, as long as it is sought only from targets that it may be sought from.
pub record Account : Type 1 where
  pub holds : Shape → Type 0
  pub may : ℕ → Shape → Type 0
  pub room : Shape → ℕ

-- A node was moved on from the target, with this spent before and after: it is of the kind still, and what is spent and what may still be read
-- together have not grown.
pub record Keeps (a : Account) (target before after : ℕ) (old new : Shape) : Type 0 where
  pub kind : a.holds old → a.holds new
  pub paid : a.holds old → a.may target old → after + a.room new ≤ before + a.room old
