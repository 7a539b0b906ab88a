-- What is left of a value whose members are taken out.
use Rattle.std.specs.Prelude.{ℕ, List, bytes_eq, if◌then◌else◌}
use Rattle.serde_json.specs.Data.{Data, null, boolean, number, string, array, object, Members, no_members, member}

-- The members without those of this name.
abbrev pub without_members : List ℕ → Members → Members
without_members name no_members = no_members
without_members name (member key d more) = if bytes_eq name key then without_members name more else member key d (without_members name more)

-- The value without its member of this name.
abbrev pub without_member : List ℕ → Data → Data
without_member name (object members) = object (without_members name members)
without_member name null = null
without_member name (boolean b) = boolean b
without_member name (number n) = number n
without_member name (string s) = string s
without_member name (array ds) = array ds
