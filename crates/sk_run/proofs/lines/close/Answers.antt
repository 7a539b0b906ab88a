use Rattle.std.proofs.Common.{◌||◌, if◌then◌else◌, inl, inr, refl, sym, ap, ◌∙◌}
use Rattle.sk_run.specs.declared.status.Status.TheVariants as Status
use Rattle.sk_run.specs.Machines.{MachineStands}
use Rattle.sk_run.specs.Conducts.{Closes}
use Rattle.sk_run.proofs.GoOnLemmas.{kept_prefix, closes_whole, closes_in_part}
use Rattle.sk_run.proofs.RunLemmas.{rose_since}
use Rattle.sk_run.proofs.lines.close.Goals as goal

pub returns-in_default-put_all : goal.returns-in_default-put_all
returns-in_default-put_all g c = λ count. (
  closes_in_part c.args.printing (MachineStands g.M.Store.under g.M.Store.holds) (Closes g.M.Store.conduct) c.args.machine c.args.refused
      c.in-Ok.answer _ _ _ c.in-Ok.ensures.closes c.in-Ok.ensures.free (c.as_bytes.ensures.value ∙ c.in-Ok-text.ensures) c.in_default-put_all.ensures.err (inl c.in_default-put_all.ensures.finishes) refl,
  c.in_default-put_all.ensures.cause.failed refl,
)

pub returns-then-refuses : goal.returns-then-refuses
returns-then-refuses g c = λ count.
    closes_whole c.args.printing (MachineStands g.M.Store.under g.M.Store.holds) (Closes g.M.Store.conduct) c.args.machine c.args.refused
    c.in-Ok.answer _ Status.Refused _ _ _ c.in-Ok.ensures.closes c.in-Ok.ensures.free (c.as_bytes.ensures.value ∙ c.in-Ok-text.ensures) c.in-Ok-put_all.ensures.ok c.in-Ok-finish.ensures.bytes
    (sym (ap (λ b. if b then Status.Refused else Status.Done) (ap (λ b. c.args.refused || b) (sym c.refuses.ensures) ∙ c.if-refuses.true))) c.in-Ok-finish.ensures.settled
    (c.in-Ok-finish.ensures.finishes ∙ ap Rattle.sk_io.specs.Causes.counted c.in-Ok-put_all.ensures.finishes) refl

pub returns-in-Ok-finish : goal.returns-in-Ok-finish
returns-in-Ok-finish g c = λ count.
    closes_whole c.args.printing (MachineStands g.M.Store.under g.M.Store.holds) (Closes g.M.Store.conduct) c.args.machine c.args.refused
    c.in-Ok.answer _ Status.Done _ _ _ c.in-Ok.ensures.closes c.in-Ok.ensures.free (c.as_bytes.ensures.value ∙ c.in-Ok-text.ensures) c.in-Ok-put_all.ensures.ok c.in-Ok-finish.ensures.bytes
    (sym (ap (λ b. if b then Status.Refused else Status.Done) (ap (λ b. c.args.refused || b) (sym c.refuses.ensures) ∙ c.if-refuses.false))) c.in-Ok-finish.ensures.settled
    (c.in-Ok-finish.ensures.finishes ∙ ap Rattle.sk_io.specs.Causes.counted c.in-Ok-put_all.ensures.finishes) refl

pub returns : goal.returns
returns g c = λ count. (
  closes_in_part c.args.printing (MachineStands g.M.Store.under g.M.Store.holds) (Closes g.M.Store.conduct) c.args.machine c.args.refused
      c.in-Ok.answer _ _ _ c.in-Ok.ensures.closes c.in-Ok.ensures.free (c.as_bytes.ensures.value ∙ c.in-Ok-text.ensures) (kept_prefix _ _ _ c.as_bytes.result.now c.in-Ok-put_all.ensures.ok c.in-Err.ensures.bytes)
      (inr (c.in-Err.ensures.finishes ∙ ap Rattle.sk_io.specs.Causes.counted c.in-Ok-put_all.ensures.finishes)) refl,
  rose_since _ _ _ c.in-Ok-put_all.ensures.cause.later (c.in-Err.ensures.cause.failed refl),
)
