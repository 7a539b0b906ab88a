-- The test whether the values of a record fit.
use Rattle.std.specs.Prelude.{ℕ, ◌+◌, ◌&&◌, nat_le, Bool, true, List, [], ◌∷◌, is_some}
use Rattle.std.specs.List.{list_all}
use Rattle.sk_base.specs.declared.schema.Field.{Field}
use Rattle.sk_base.specs.declared.record.Entry.{Entry}
use Rattle.sk_base.specs.Records.{fits_entry, bytes_of_values, most_bytes}
use Rattle.sk_base.specs.Rooms.{room_behind}

-- The places rise, the first being this one or above.
abbrev pub follow : ℕ → List Entry → Bool
follow least [] = true
follow least (entry ∷ entries) = nat_le least entry.field && follow (entry.field + 1) entries

-- The values stand by rising place, each is of its field's kind, and their texts are not too long.
abbrev pub fit : List Field → List Entry → Bool
fit fields values = follow 0 values && list_all (fits_entry fields) values && is_some (room_behind most_bytes (bytes_of_values values))
