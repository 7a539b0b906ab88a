use Rattle.std.proofs.Common.{◌≡◌, ◌++◌, map, take}
use Rattle.serde_json.specs.Data.{string}
use Rattle.serde_json.specs.View.{view}
use Rattle.sk_query_json.proofs.writer.with_strings.Given as goal

-- the texts so far stand behind the items
abbrev pub invariant-texts : goal.invariant-texts
invariant-texts l = map view l.made.items ≡ map view l.fn.items.items ++ map string (take l.text-index l.texts)
