-- What a source and a sink in memory are.
use Rattle.std.specs.Prelude.{ℕ, ◌+◌, ◌-◌, ◌^◌, min, Bool, true, false, ◌&&◌, ◌==◌, nat_lt, List, ◌++◌, length, drop}
use Rattle.std.specs.List.{list_any}
use Rattle.sk_io.specs.Causes.{counted}

-- A source in memory.
pub record Feed : Type 0 where
  pub left : List ℕ
  pub piece : ℕ
  pub failing : List ℕ
  pub calls : ℕ
  pub faults : ℕ

-- Whether the next call is one of those that fail.
abbrev pub feed_fails : Feed → Bool
feed_fails f = list_any (λ n. n == counted f.calls) f.failing

-- How many bytes a call gives that does not fail, to a buffer of `room` bytes.
abbrev pub portion : Feed → ℕ → ℕ
portion f room = min (min room f.piece) (length f.left)

-- The source after a call that gave n bytes.
abbrev pub fed : Feed → ℕ → Feed
fed f n = record f { left = drop n f.left; calls = counted f.calls }

-- The source after a call that failed.
abbrev pub starved : Feed → Feed
starved f = record f { calls = counted f.calls; faults = counted f.faults }

-- A sink in memory.
pub record Tray : Type 0 where
  pub held : List ℕ
  pub piece : ℕ
  pub room : ℕ
  pub failing : List ℕ
  pub calls : ℕ
  pub faults : ℕ
  pub settled : Bool
  pub finishes : ℕ

-- Whether the next call is one of those that fail.
abbrev pub tray_fails : Tray → Bool
tray_fails t = list_any (λ n. n == counted t.calls) t.failing

-- Whether no byte of the piece has room, though it has some.
abbrev pub is_over : Tray → List ℕ → Bool
is_over t piece = nat_lt 0 (length piece) && (length t.held == t.room)

-- How many bytes of the piece a call takes that does not fail.
abbrev pub share : Tray → List ℕ → ℕ
share t piece = min (min (length piece) t.piece) (t.room - length t.held)

-- The sink after a put that took these bytes.
abbrev pub served : Tray → List ℕ → Tray
served t bytes = record t { held = t.held ++ bytes; calls = counted t.calls; settled = false }

-- The sink after a put that failed.
abbrev pub spilt : Tray → Tray
spilt t = record t { calls = counted t.calls; faults = counted t.faults; settled = false }

-- The sink after a finish that did not fail.
abbrev pub closed : Tray → Tray
closed t = record t { calls = counted t.calls; settled = true; finishes = counted t.finishes }

-- The sink after a finish that failed.
abbrev pub unclosed : Tray → Tray
unclosed t = record t { calls = counted t.calls; faults = counted t.faults; settled = false; finishes = counted t.finishes }
