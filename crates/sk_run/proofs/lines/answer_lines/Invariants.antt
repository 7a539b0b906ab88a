use Rattle.std.proofs.Common.{◌≡◌, ◌≤◌, ℕ, List, Some, None}
use Rattle.sk_io.specs.Reading.{reach}
use Rattle.sk_run.specs.Machines.{MachineStands}
use Rattle.sk_run.specs.Conducts.{AnswersAs}
use Rattle.sk_run.proofs.RunLemmas.{TakenSoFar}
use Rattle.sk_run.proofs.EndLemmas.{SoFar}
use Rattle.sk_run.proofs.lines.answer_lines.Given as goal

abbrev pub invariant-lines : goal.invariant-lines
invariant-lines g l = record {
  goes : l.lines.stopped ≡ None;
  read_later : (g.S.Source.seen l.fn.input).faults ≤ (g.S.Source.seen l.input).faults;
  write_later : (g.K.Sink.seen l.fn.output).faults ≤ (g.K.Sink.seen l.output).faults;
  finishes : (g.K.Sink.seen l.output).finishes ≡ (g.K.Sink.seen l.fn.output).finishes;
  taken : (bytes : List ℕ) → (g.S.Source.seen l.fn.input).left ≡ Some bytes → TakenSoFar bytes l.lines (g.S.Source.seen l.input).left;
  so_far : SoFar l.fn.printing (MachineStands g.M.Store.under g.M.Store.holds) (AnswersAs g.M.Store.conduct l.fn.reading)
      l.fn.first (g.S.Source.seen l.fn.input).left (g.K.Sink.seen l.fn.output).held l.fn.refused_before l.fn.steps l.lines (g.S.Source.seen l.input).left l.waiting (g.K.Sink.seen l.output).held l.machine l.refused l.steps;
}

abbrev pub decreases-lines : goal.decreases-lines
decreases-lines g l = reach l.lines
