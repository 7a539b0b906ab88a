use Rattle.std.proofs.Common.{not, length, unwrap_or, ap, ◌∙◌}
use Rattle.sk_base.specs.Names.{is_name_byte}
use Rattle.sk_lexer.proofs.RunLemmas.{place_len, same_len}
use Rattle.sk_lexer.proofs.runs.name_len.Goals as goal

pub returns-clause-value : goal.returns-clause-value
returns-clause-value c =
    c.unwrap_or.ensures ∙ ap (λ o. unwrap_or o (length c.args.cs.now)) c.name_end.ensures
    ∙ place_len (λ x. not (is_name_byte x)) c.args.cs.now ∙ same_len is_name_byte c.args.cs.now
