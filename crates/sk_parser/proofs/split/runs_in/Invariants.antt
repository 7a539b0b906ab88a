use Rattle.std.proofs.Common.{map}
use Rattle.sk_parser.specs.Views.{parts_view, run_view}
use Rattle.sk_parser.proofs.SplitLemmas.{RunsSoFar}
use Rattle.sk_parser.proofs.split.runs_in.Given as goal

abbrev pub invariant-parts : goal.invariant-parts
invariant-parts l = RunsSoFar (parts_view l.fn.parts.items) (map run_view l.made.items) (parts_view l.held.items) l.fresh l.negative (parts_view l.part-iterator.rest.items)
