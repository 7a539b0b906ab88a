-- Zones of ids, and what each tells of the values there.
use Rattle.std.specs.Prelude.{◌≡◌, ◌≤◌, ◌<◌, ◌-◌, ◌/◌, ◌^◌, ◌&&◌, ◌⊎◌, ℕ, nat_le, Bool, List, length, get_or}
use Rattle.std.specs.List.{AllByRecursion}
use Rattle.sk_values.specs.Numbers.{IsBetween}
use Rattle.sk_values.specs.SlotValues.{SlotValues}
use Rattle.sk_values.specs.declared.span.Span.{Span}
use Rattle.sk_values.specs.declared.zones.Zone.{Zone}
use Rattle.sk_values.specs.Behind.{in_span, greatest_in}

-- The place of the zone in which an id lies: 128 ids lie in each, the first from 1 on.
abbrev pub zone_of : ℕ → ℕ
zone_of id = (id - 1) / 128

-- The zone at a place.
abbrev pub zone_at : List Zone → ℕ → Zone
zone_at zones k = get_or zones k (record { least = 0; greatest = 0 })

-- Whether some of the zone's numbers lie between two.
abbrev pub meets : Zone → ℕ → ℕ → Bool
meets z least greatest = nat_le least z.greatest && nat_le z.least greatest

-- Whether both ends of the zone lie in a span of numbers, and so all of its numbers.
abbrev pub lies_in : Span → Zone → Bool
lies_in s z = in_span s z.least && in_span s z.greatest

-- The zone has all numbers.
pub record HasAll (z : Zone) : Type 0 where
  pub from : z.least ≡ 0
  pub to : 2 ^ 64 - 1 ≤ z.greatest

-- The zone tells of a value: the value is one of its numbers, or it has all numbers.
abbrev pub TellsOf : List ℕ → Zone → Type 0
TellsOf v z = IsBetween z.least z.greatest v ⊎ HasAll z

-- The one zone has all numbers that the other has.
pub record IsWider (old new : Zone) : Type 0 where
  pub from : new.least ≤ old.least
  pub to : old.greatest ≤ new.greatest

-- No zone went, and each is as wide as it was, or wider.
pub record AreWider (old new : List Zone) : Type 0 where
  pub there : length old ≤ length new
  pub wider : (k : ℕ) → k < length old → IsWider (zone_at old k) (zone_at new k)

-- The zone of an id is there, and tells of a value.
pub record IsToldAt (zones : List Zone) (id : ℕ) (v : List ℕ) : Type 0 where
  pub there : zone_of id < length zones
  pub tells : TellsOf v (zone_at zones (zone_of id))

-- Each entry's value is told of by the zone of its id.
abbrev pub AreZoned : List Zone → SlotValues → Type 0
AreZoned zones es = AllByRecursion (λ e. IsToldAt zones e.0 e.1) es

-- A part of the zones has those from one place to another, in its own places.
abbrev pub IsPart : List Zone → List Zone → ℕ → ℕ → Type 0
IsPart zones part from to = (k : ℕ) → from ≤ k → k ≤ to → (k - from < length part) × (zone_at part (k - from) ≡ zone_at zones k)

-- Each value is a number of the span.
abbrev pub AreAmong : Span → SlotValues → Type 0
AreAmong s es = AllByRecursion (λ e. IsBetween s.least (greatest_in s) e.1) es
