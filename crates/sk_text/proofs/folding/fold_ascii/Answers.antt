use Rattle.std.proofs.Common.{sym, ◌∙◌}
use Rattle.sk_text.proofs.AsciiLaws.{term_of-ascii}
use Rattle.sk_text.proofs.folding.fold_ascii.Goals as goal

pub returns : goal.returns
returns c = λ ascii. c.in_ok-text.ensures.ok ∙ sym (term_of-ascii c.args.word.now ascii)
