use Rattle.std.proofs.Common.{◌==◌, length, unwrap_or, ap, ◌∙◌}
use Rattle.sk_lexer.proofs.RunLemmas.{place_len}
use Rattle.sk_lexer.proofs.quotes.inner_len.Goals as goal

pub returns-clause-value : goal.returns-clause-value
returns-clause-value c =
    c.unwrap_or.ensures ∙ ap (λ o. unwrap_or o (length c.args.cs.now)) c.next_quote.ensures ∙ place_len (λ x. x == 34) c.args.cs.now
