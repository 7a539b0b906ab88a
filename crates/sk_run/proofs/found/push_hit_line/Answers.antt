use Rattle.std.proofs.Common.{string_bytes, decimal, codes}
use Rattle.json.specs.Print.{quoted}
use Rattle.sk_run.proofs.FoundLemmas.{three_numbers, hit_pieces}
use Rattle.sk_run.proofs.found.push_hit_line.Goals as goal

pub returns : goal.returns
returns c =
    let hit = c.args.hit.now in
    let before = string_bytes c.args.text.now in
    hit_pieces c.push_str-2.result before (string_bytes c.push_number-3.new.text) (string_bytes c.push_collapsed.new.text) (string_bytes c.push_str.new.self) (string_bytes c.push_str-2.new.self)
    (codes "hit rank=") (decimal c.args.rank) (codes " id=") (decimal hit.id) (codes " weight=") (decimal hit.weight) (codes " collapsed=") (decimal hit.collapsed) (codes " data=") c.args.payload.now (quoted hit.payload) (codes "\n")
    (three_numbers before (string_bytes c.push_number.new.text) (string_bytes c.push_number-2.new.text) (string_bytes c.push_number-3.new.text)
    (codes "hit rank=") (decimal c.args.rank) (codes " id=") (decimal hit.id) (codes " weight=") (decimal hit.weight)
    c.in_ok-push_number.ensures c.in_ok-push_number-2.ensures c.in_ok-push_number-3.ensures)
    c.in_ok-push_collapsed.ensures c.in_ok-push_str.ensures.bytes c.requires c.push_str-2.ensures.bytes
