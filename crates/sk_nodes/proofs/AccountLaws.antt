-- What is kept of any account.
use Rattle.std.proofs.Common.{◌≡◌, ◌≤◌, ◌+◌, ℕ, sym, subst, arith, le_refl}
use Rattle.sk_nodes.specs.Accounts.{Account, Keeps}
use Rattle.sk_nodes.specs.Shapes.{Shape, ended}

-- it was not moved
pub keeps_same : (a : Account) (target spent : ℕ) (s : Shape) → Keeps a target spent spent s s
keeps_same a target spent s = record { kind = λ h. h; paid = λ h may. le_refl (spent + a.room s) }

-- it has ended
pub keeps_gone : (a : Account) (target spent : ℕ) (s : Shape) → a.holds ended → a.room ended ≡ 0 → Keeps a target spent spent s ended
keeps_gone a target spent s holds none = record { kind = λ h. holds; paid = λ h may. omega (arith, none) }

-- it is of another kind
pub keeps_other : (a : Account) (target before after : ℕ) (old new : Shape) → (a.holds old → ⊥) → Keeps a target before after old new
keeps_other a target before after old new other = record { kind = λ h. absurd (other h); paid = λ h may. absurd (other h) }

-- another was put in its place before, which may read no more
pub keeps_placed : (a : Account) (target before after : ℕ) (old mid new : Shape) → (a.holds old → a.holds mid) → (a.holds old → a.may target old → a.may target mid) → (a.holds old → a.room mid ≤ a.room old) → Keeps a target before after mid new
    → Keeps a target before after old new
keeps_placed a target before after old mid new holds may room keeps = record {
  kind = λ h. keeps.kind (holds h);
  paid = λ h m. let paid = keeps.paid (holds h) (may h m) in let less = room h in omega (arith, paid, less);
}

-- the same by what the shapes are
pub keeps_along : (a : Account) (target before after : ℕ) (old new s t : Shape) → old ≡ s → new ≡ t → Keeps a target before after s t → Keeps a target before after old new
keeps_along a target before after old new s t e f h = subst (λ (o : Shape). Keeps a target before after o new) (sym e) (subst (λ (n : Shape). Keeps a target before after s n) (sym f) h)

-- ---- a node that is moved on more than once

-- it has come from one target so far as another
pub record SoFar (a : Account) (target from before spent : ℕ) (old new : Shape) : Type 0 where
  pub keeps : Keeps a target before spent old new
  pub goes : a.holds old → a.may target old → a.may from new

pub far_begun : (a : Account) (target spent : ℕ) (s : Shape) → SoFar a target target spent spent s s
far_begun a target spent s = record { keeps = keeps_same a target spent s; goes = λ h may. may }

-- one move after another
pub keeps_then : (a : Account) (target from before spent after : ℕ) (old mid new : Shape) → SoFar a target from before spent old mid → Keeps a from spent after mid new → Keeps a target before after old new
keeps_then a target from before spent after old mid new far keeps = record {
  kind = λ h. keeps.kind (far.keeps.kind h);
  paid = λ h may.
      let one = far.keeps.paid h may in
      let two = keeps.paid (far.keeps.kind h) (far.goes h may) in
      omega (arith, one, two);
}

-- and it goes on to a further one
pub far_on : (a : Account) (target from further before spent after : ℕ) (old mid new : Shape) → SoFar a target from before spent old mid → Keeps a from spent after mid new → (a.holds mid → a.may from mid → a.may further new)
    → SoFar a target further before after old new
far_on a target from further before spent after old mid new far keeps goes = record {
  keeps = keeps_then a target from before spent after old mid new far keeps;
  goes = λ h may. goes (far.keeps.kind h) (far.goes h may);
}

-- and skips to a later one
pub far_skipped : (a : Account) (target from to before spent : ℕ) (old new : Shape) → SoFar a target from before spent old new → (a.holds new → a.may from new → a.may to new) → SoFar a target to before spent old new
far_skipped a target from to before spent old new far goes = record { keeps = far.keeps; goes = λ h may. goes (far.keeps.kind h) (far.goes h may) }
