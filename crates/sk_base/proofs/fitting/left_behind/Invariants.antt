use Rattle.std.proofs.Common.{◌≡◌, drop}
use Rattle.sk_base.specs.Records.{bytes_of_values}
use Rattle.sk_base.specs.Rooms.{room_behind}
use Rattle.sk_base.proofs.fitting.left_behind.Given as goal

abbrev pub invariant-values : goal.invariant-values
invariant-values l = room_behind l.left (bytes_of_values (drop l.entry-index l.values)) ≡ room_behind l.room (bytes_of_values l.values)
