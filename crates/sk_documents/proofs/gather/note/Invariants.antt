use Rattle.std.proofs.Common.{◌≡◌, ◌++◌, map, take}
use Rattle.sk_sorted.specs.Joined.{joined_id}
use Rattle.sk_documents.proofs.gather.note.Given as goal

abbrev pub invariant-own : goal.invariant-own
invariant-own l = l.ids.items ≡ l.fn.ids.items ++ map (joined_id l.count l.part) (take l.id-index l.own)
