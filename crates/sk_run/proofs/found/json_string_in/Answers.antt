use Rattle.std.proofs.Common.{ap, ◌∙◌, [], ◌∷◌, ◌++◌}
use Rattle.json.specs.Token.{string}
use Rattle.sk_run.proofs.FoundLemmas.{one_string}
use Rattle.sk_run.proofs.found.json_string_in.Goals as goal

pub returns : goal.returns
returns c =
    ap (λ v. v.items) c.in-Ok.ensures.ok
    ∙ one_string c.args.text.now c.into_inner.result.items c.string.new.self.before c.string.new.self.tokens
    (c.string.ensures.room.0 ∙ c.new-writer.ensures.before ∙ c.clear-2.ensures.items) (c.in_ok-string.ensures.ok ∙ ap (λ ts. ts ++ string c.args.text.now ∷ []) c.new-writer.ensures.tokens)
    c.into_inner.ensures.items
