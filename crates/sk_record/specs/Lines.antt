-- The value that a line is read as.
use Rattle.std.specs.Prelude.{◌≡◌, ℕ, List, Option, Some, None, Result, Ok, Err, if◌then◌else◌}
use Rattle.std.specs.Str.{is_utf8}
use Rattle.serde_json.specs.Data.{Data}
use Rattle.serde_json.specs.Read.{read}
use Rattle.serde_json.specs.View.{view}
use Rattle.serde_json.specs.declared.value.Value.{Value}
use Rattle.sk_record.specs.declared.fault.LineFault.{LineFault}

-- The value that a line is read as. Bytes that are not UTF-8 are none.
abbrev pub line_value : List ℕ → Option Data
line_value line = if is_utf8 line then read line else None

-- The value of a line was read, or it has none. Memory may run out at any time.
abbrev pub IsRead : Option Data → Result Value LineFault → Type 0
IsRead found (Ok value) = found ≡ Some (view value)
IsRead found (Err LineFault.NotJson) = found ≡ None
IsRead found (Err LineFault.NoMemory) = Unit {0}
IsRead found (Err fault) = ⊥
