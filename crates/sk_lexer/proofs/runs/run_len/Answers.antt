use Rattle.std.proofs.Common.{not, length, unwrap_or, ap, ◌∙◌}
use Rattle.sk_grammar.specs.Characters.{runs_on}
use Rattle.sk_lexer.proofs.RunLemmas.{place_len, same_len}
use Rattle.sk_lexer.proofs.runs.run_len.Goals as goal

pub returns-clause-value : goal.returns-clause-value
returns-clause-value c =
    c.unwrap_or.ensures ∙ ap (λ o. unwrap_or o (length c.args.cs.now)) c.run_end.ensures
    ∙ place_len (λ x. not (runs_on x)) c.args.cs.now ∙ same_len runs_on c.args.cs.now
