-- What is left of a room.
use Rattle.std.specs.Prelude.{ℕ, ◌-◌, nat_le, Option, Some, None, if◌then◌else◌}

-- What is left of a room behind so many, and none where they do not fit.
abbrev pub room_behind : ℕ → ℕ → Option ℕ
room_behind room n = if nat_le n room then Some (room - n) else None
