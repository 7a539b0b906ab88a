use Rattle.std.proofs.Common.{bytes_eq, sym, ◌∙◌, ap}
use Rattle.sk_record.proofs.AloneLemmas.{only_first, not_one}
use Rattle.sk_record.proofs.options.is_only.Goals as goal

pub returns-then-len-ne1 : goal.returns-then-len-ne1
returns-then-len-ne1 c = not_one c.args.name.now c.args.members.now.entries (λ h. c.if-len-ne1.true (c.len.ensures.len ∙ h))

pub returns-in-Some : goal.returns-in-Some
returns-in-Some c =
    c.eq.ensures ∙ ap (λ text. bytes_eq text c.args.name.now) c.as_str.ensures.value
    ∙ only_first c.args.name.now c.args.members.now.entries c.in-Some.only.now c.in-Some.field-0-1.now (sym c.len.ensures.len ∙ c.if-len-ne1.false) c.in-Some.ensures.first
