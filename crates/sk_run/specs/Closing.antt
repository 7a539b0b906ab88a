-- What closes a run, behind the answers to its lines.
use Rattle.std.specs.Prelude.{◌≡◌, List, [], ◌∷◌, ◌⊎◌}
use Rattle.sk_run.specs.declared.status.Status.{Status}

-- From a state that `now` stands for, the run may be closed by this answer alone.
pub record ClosedBy {W S R : Type 0} (Stands : W → S → Type 0) (Closes : S → R → Type 0) (now : W) (answers : List R) : Type 0 where
  pub closing : R
  pub alone : answers ≡ closing ∷ []
  pub closes : (s : S) → Stands now s → Closes s closing

-- Nothing was answered as yet, or what closes the run.
abbrev pub ClosedOrNot : {W S R : Type 0} → (W → S → Type 0) → (S → R → Type 0) → W → List R → Type 0
ClosedOrNot Stands Closes now answers = (answers ≡ []) ⊎ ClosedBy Stands Closes now answers

-- Nothing is taken of a source.
abbrev pub NeverTaken : {R : Type 0} → Status → List R → Type 0
NeverTaken status answers = ⊥
