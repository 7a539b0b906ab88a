use Rattle.std.proofs.Common.{◌≡◌, None, sym, ap, ◌∙◌}
use Rattle.std.specs.List.{slice_get}
use Rattle.std.proofs.lemmas.Option.{slice_get_past}
use Rattle.sk_query.proofs.ViewLaws.{view-Nothing}
use Rattle.sk_grammar.specs.Parts.{range_in}
use Rattle.sk_parser.proofs.part.range_in.Goals as goal

pub returns-in-None : goal.returns-in-None
returns-in-None c =
    let none : slice_get c.args.fields.now c.args.place ≡ None = slice_get_past c.args.fields.now c.args.place c.in-None.ensures.lookup.3 in
    view-Nothing ∙ ap (λ o. range_in o c.args.text.now) (sym none)
