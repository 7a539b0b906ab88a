use Rattle.std.proofs.Common.{◌≡◌, IfOk, chars, sym, ap, ◌∙◌, subst, arith}
use Rattle.sk_grammar.specs.Cutting.{byte_len, tokens_from, tokens_in}
use Rattle.sk_grammar.proofs.CuttingLaws.{cut_once}
use Rattle.sk_lexer.proofs.WalkLemmas.{byte_len-chars}
use Rattle.sk_lexer.proofs.walk.tokens.Goals as goal

pub tokens_in-requires : goal.tokens_in-requires
tokens_in-requires c =
    let same = ap byte_len (c.as_slice.ensures.value ∙ c.in_ok-cs.ensures) ∙ byte_len-chars c.args.text.now c.utf8.text in
    let few = c.requires in
    omega (arith, same, few)

pub returns-clause-cut : goal.returns-clause-cut
returns-clause-cut c = λ pieces h.
    subst (λ want. IfOk c.tokens_in.result (λ ts. ts ≡ want))
    (ap (tokens_in c.args.schema.now) (c.as_slice.ensures.value ∙ c.in_ok-cs.ensures) ∙ ap (tokens_from 0 (chars c.args.text.now)) (sym (cut_once c.args.schema.now (chars c.args.text.now) pieces h)))
    c.tokens_in.ensures
