-- Where what is left begins.
use Rattle.std.specs.Prelude.{◌≡◌, ◌≤◌, ◌<◌, ◌^◌, ◌⊎◌, nat_lt, ℕ, Option, None, Some, if◌then◌else◌}
use Rattle.sk_query.specs.declared.form.Form.{Form}
use Rattle.sk_decay.specs.declared.meeting.Meeting.{Meeting}
use Rattle.sk_decay.specs.Sides.{paired}

-- Nothing below an id.
abbrev pub NoneBelow : ℕ → (ℕ → Option ℕ) → Type 0
NoneBelow head f = (id : ℕ) → id < head → f id ≡ None

-- The head is the first id, with its weight; 2 ^ 32 and 0 where there is none.
pub record IsHead (head weight : ℕ) (f : ℕ → Option ℕ) : Type 0 where
  pub within : head ≤ 2 ^ 32
  pub below : NoneBelow head f
  pub at : head < 2 ^ 32 → f head ≡ Some weight
  pub past : (id : ℕ) → 2 ^ 32 ≤ id → f id ≡ None
  pub ended : head ≡ 2 ^ 32 → weight ≡ 0

-- The sides go on behind the head of the first.
pub record GoesOn (head next : ℕ) (f : ℕ → Option ℕ) : Type 0 where
  pub further : head < next
  pub within : next < 2 ^ 32
  pub below : NoneBelow next f

-- What two sides give together begins there, or lies behind; the first side's head is given.
abbrev pub Meets : Form → ℕ → (ℕ → Option ℕ) → (ℕ → Option ℕ) → Meeting → Type 0
Meets form head f g (Meeting.At h w) = IsHead h w (λ id. paired form (f id) (g id))
Meets form head f g (Meeting.Behind next) = GoesOn head next (λ id. paired form (f id) (g id))

-- The sides of an or, of a max and of an and_maybe never go on.
abbrev pub GoesOnOnly : Form → Meeting → Type 0
GoesOnOnly form (Meeting.At h w) = Unit {0}
GoesOnOnly Form.Or (Meeting.Behind next) = ⊥
GoesOnOnly Form.Max (Meeting.Behind next) = ⊥
GoesOnOnly Form.AndMaybe (Meeting.Behind next) = ⊥
GoesOnOnly _ (Meeting.Behind next) = Unit {0}

-- It is the first side's head, or the end.
abbrev pub MeetsAt : ℕ → Meeting → Type 0
MeetsAt head (Meeting.At h w) = (h ≡ head) ⊎ (h ≡ 2 ^ 32)
MeetsAt head (Meeting.Behind next) = Unit {0}

-- The heads of an and where it begins are the same, or the second has ended; otherwise it goes on from the second, which stands behind the first.
abbrev pub MeetsBoth : Form → ℕ → ℕ → Meeting → Type 0
MeetsBoth Form.And a b (Meeting.At h w) = (a ≡ b) ⊎ (2 ^ 32 ≤ b)
MeetsBoth Form.And a b (Meeting.Behind next) = (next ≡ b) × ((a < b) × (b < 2 ^ 32))
MeetsBoth _ a b m = Unit {0}

-- From an id on, and at the end nothing.
abbrev pub behind : ℕ → Meeting
behind id = if nat_lt id (2 ^ 32) then Meeting.Behind id else Meeting.At (2 ^ 32) 0
