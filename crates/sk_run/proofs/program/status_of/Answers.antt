-- What a run did, by the arguments of its program.
use Rattle.std.proofs.Common.{◌∙◌, drop}
use Rattle.sk_run.specs.Ran.{Ran}
use Rattle.sk_run.proofs.ProgramLemmas.{ran_from}
use Rattle.sk_run.proofs.program.status_of.Goals as goal

pub returns-in-Ok : goal.returns-in-Ok
returns-in-Ok g c = record {
  ran =
      ran_from (Ran g.M.Store.conduct)
      c.args.arguments c.in-Ok.arguments c.words_of.result.now c.run.result _ _ c.args.steps.now c.run.new.steps
      c.in-Ok.is (c.words_of.ensures ∙ (λ i. drop 1 (c.as_slice.ensures.value i))) c.requires c.run.ensures.ran;
}
