use Rattle.std.proofs.Common.{◌≡◌, map, take}
use Rattle.serde_json.specs.View.{view}
use Rattle.sk_query.specs.Trees.{query_view}
use Rattle.sk_query_json.specs.Writing.{json_of}
use Rattle.sk_query_json.proofs.writer.+json_of.Given as goal

-- the values so far are those of the parts that were passed over
abbrev pub invariant-parts_named-parts : goal.invariant-parts_named-parts
invariant-parts_named-parts l = map view l.made.items ≡ map (λ q. json_of (query_view q)) (take l.part-index l.parts)
