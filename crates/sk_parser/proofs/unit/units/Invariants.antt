use Rattle.std.proofs.Common.{◌≡◌, ◌++◌, map}
use Rattle.sk_grammar.specs.declared.token.Mark.TheVariants as Mark
use Rattle.sk_grammar.specs.Runs.{units}
use Rattle.sk_parser.specs.Views.{parts_view, unit_view}
use Rattle.sk_parser.proofs.unit.units.Given as goal

abbrev pub invariant-parts : goal.invariant-parts
invariant-parts l = map unit_view l.made.items ++ units l.mark (parts_view l.part-iterator.rest.items) ≡ units Mark.Plain (parts_view l.fn.parts.items)
