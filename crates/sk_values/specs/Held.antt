-- The bytes of a value, as they are kept.
use Rattle.std.specs.Prelude.{◌<◌, ℕ, List, take}
use Rattle.sk_values.specs.declared.value.Held.{Held}
use Rattle.sk_values.specs.declared.value.Held.TheVariants.{Number, Short, Long}

-- The bytes that are kept: of a short value those that its length takes.
abbrev pub held_bytes : Held → List ℕ
held_bytes (Number bytes) = bytes
held_bytes (Short bytes length) = take length bytes
held_bytes (Long boxed) = boxed.value

-- A short value has fewer than eight bytes.
abbrev pub IsHeld : Held → Type 0
IsHeld (Number bytes) = Unit {0}
IsHeld (Short bytes length) = length < 8
IsHeld (Long boxed) = Unit {0}
