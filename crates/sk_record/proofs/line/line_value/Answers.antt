use Rattle.std.proofs.Common.{sym, ◌∙◌, true≢false}
use Rattle.sk_record.proofs.LineLemmas.{value_read, no_value}
use Rattle.sk_record.proofs.line.line_value.Goals as goal

pub returns-in-Ok : goal.returns-in-Ok
returns-in-Ok c = value_read _ _ c.in-Ok.ensures.ok.0 c.in-Ok.ensures.ok.1

pub returns-else-is_memory : goal.returns-else-is_memory
returns-else-is_memory c =
    no_value _ (c.in-Err.ensures.err (λ memory. true≢false (sym (c.is_memory.ensures.1 memory) ∙ c.if-is_memory.false)))
