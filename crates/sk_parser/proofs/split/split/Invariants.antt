use Rattle.sk_parser.specs.Views.{parts_view, segments_view, border_test}
use Rattle.sk_parser.proofs.SplitLemmas.{SoFar}
use Rattle.sk_parser.proofs.split.split.Given as goal

abbrev pub invariant-parts : goal.invariant-parts
invariant-parts l = SoFar (border_test l.border) (parts_view l.fn.parts.items) (segments_view l.made.items) (parts_view l.held.items) (parts_view l.part-iterator.rest.items)
