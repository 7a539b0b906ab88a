use Rattle.std.proofs.Common.{◌≡◌, drop}
use Rattle.serde_json.specs.View.{items_view, members_view}
use Rattle.sk_base.specs.Rooms.{room_behind}
use Rattle.sk_json.specs.Values.{bytes_in_items, bytes_in_members}
use Rattle.sk_json.proofs.strings.+room_behind.Given as goal

-- what is left behind the items so far holds what the whole room holds
abbrev pub invariant-room_behind_items-items : goal.invariant-room_behind_items-items
invariant-room_behind_items-items l =
    room_behind l.left (bytes_in_items (items_view (drop l.item-index l.items))) ≡ room_behind l.room (bytes_in_items (items_view l.items))

abbrev pub invariant-room_behind_members-members : goal.invariant-room_behind_members-members
invariant-room_behind_members-members l =
    room_behind l.left (bytes_in_members (members_view l.member-iterator)) ≡ room_behind l.room (bytes_in_members (members_view l.members.entries))
