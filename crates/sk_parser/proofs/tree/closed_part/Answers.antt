use Rattle.std.proofs.Common.{◌≡◌, ◌==◌, false, length, ap, sym, ◌∙◌}
use Rattle.std.proofs.lemmas.List.{length-map}
use Rattle.sk_grammar.specs.Parts.{unit}
use Rattle.sk_parser.specs.Views.{part_view, parts_view}
use Rattle.sk_parser.proofs.TreeLemmas.{closed_some}
use Rattle.sk_parser.proofs.tree.closed_part.Goals as goal

pub returns : goal.returns
returns c =
    let some : (length (parts_view c.args.parts.items) == 0) ≡ false =
    ap (λ n. n == 0) (length-map c.args.parts.items part_view ∙ sym c.args.parts.ok.0) ∙ sym c.is_empty.ensures ∙ c.if-is_empty.false in
    ap unit c.in_ok-query.ensures ∙ closed_some c.args.join (parts_view c.args.parts.items) some
