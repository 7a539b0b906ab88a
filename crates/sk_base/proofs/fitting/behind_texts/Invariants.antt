use Rattle.std.proofs.Common.{◌≡◌, drop}
use Rattle.sk_base.specs.Records.{bytes_of_texts}
use Rattle.sk_base.specs.Rooms.{room_behind}
use Rattle.sk_base.proofs.fitting.behind_texts.Given as goal

abbrev pub invariant-texts : goal.invariant-texts
invariant-texts l = room_behind l.left (bytes_of_texts (drop l.text-index l.texts)) ≡ room_behind l.room (bytes_of_texts l.texts)
