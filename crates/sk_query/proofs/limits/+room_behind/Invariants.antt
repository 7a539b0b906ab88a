use Rattle.std.proofs.Common.{◌≡◌, drop}
use Rattle.sk_query.specs.Trees.{queries_view}
use Rattle.sk_base.specs.Rooms.{room_behind}
use Rattle.sk_query.specs.Fits.{leaves_in}
use Rattle.sk_query.proofs.limits.+room_behind.Given as goal

-- what is left behind the parts so far holds what the whole room holds
abbrev pub invariant-room_behind_parts-parts : goal.invariant-room_behind_parts-parts
invariant-room_behind_parts-parts l = room_behind l.left (leaves_in (queries_view (drop l.part-index l.parts))) ≡ room_behind l.room (leaves_in (queries_view l.parts))
