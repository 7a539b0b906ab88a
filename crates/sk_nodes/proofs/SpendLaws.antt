-- What moves cost, one after another.
use Rattle.std.proofs.Common.{◌≤◌, ◌+◌, ℕ, refl, arith, le_refl}
use Rattle.sk_nodes.specs.Accounts.{Spends}

-- nothing was read
pub spends_none : (unread spent steps : ℕ) → Spends unread unread spent spent steps steps
spends_none unread spent steps = record { paid = le_refl (spent + unread); counted = refl; later = le_refl spent }

-- one move after another
pub spends_then : {unread mid left a b d x y z : ℕ} → Spends unread mid a b x y → Spends mid left b d y z → Spends unread left a d x z
spends_then first last = record {
  paid = omega (arith, first.paid, last.paid);
  counted = omega (arith, first.counted, last.counted);
  later = omega (arith, first.later, last.later);
}

-- of two sides, the first or the second was moved
pub spends_first : {unread left a b x y : ℕ} (other : ℕ) → Spends unread left a b x y → Spends (unread + other) (left + other) a b x y
spends_first other h = record { paid = omega (arith, h.paid); counted = h.counted; later = h.later }

pub spends_second : {unread left a b x y : ℕ} (other : ℕ) → Spends unread left a b x y → Spends (other + unread) (other + left) a b x y
spends_second other h = record { paid = omega (arith, h.paid); counted = h.counted; later = h.later }

-- less is left than was
pub spends_less : {unread left less a b x y : ℕ} → less ≤ left → Spends unread left a b x y → Spends unread less a b x y
spends_less le h = record { paid = omega (arith, le, h.paid); counted = h.counted; later = h.later }
