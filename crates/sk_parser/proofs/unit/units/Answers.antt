use Rattle.std.proofs.Common.{◌≡◌, ◌++◌, map, subst}
use Rattle.sk_grammar.specs.declared.token.Mark.TheVariants as Mark
use Rattle.sk_grammar.specs.Runs.{units}
use Rattle.sk_parser.specs.Views.{part_view, parts_view, unit_view}
use Rattle.sk_parser.proofs.SplitLemmas.{units_step}
use Rattle.sk_parser.proofs.unit.units.Goals as goal

pub parts-preserved : goal.parts-preserved
parts-preserved c =
    units_step (parts_view c.args.parts.items) (map unit_view c.parts.made.items) (map unit_view c.add.new.made.items) c.parts.mark c.mark_behind-next.result
    (part_view c.in-Some.part) (parts_view c.next.new.self.rest.items) c.in_ok-add.ensures c.mark_behind-next.ensures
    (subst (λ xs. map unit_view c.parts.made.items ++ units c.parts.mark (parts_view xs) ≡ units Mark.Plain (parts_view c.args.parts.items)) c.in-Some.ensures.steps.0 c.parts.invariant)
