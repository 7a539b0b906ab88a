use Rattle.std.proofs.Common.{sym, ◌∙◌}
use Rattle.sk_faults.proofs.BoundLemmas.{number_read}
use Rattle.sk_faults.proofs.bounds.is_number.Goals as goal

pub returns-then-are_digits : goal.returns-then-are_digits
returns-then-are_digits c =
    c.is_ok.ensures.value ∙ number_read c.args.text.now c.parse.result c.parse.ensures.value.0
    (sym c.are_digits.ensures ∙ c.if-are_digits.true) (sym c.is_empty.ensures ∙ c.if-is_empty.false)
