use Rattle.std.proofs.Common.{rules, ◌∙◌, length, map, sym, ap, subst}
use Rattle.sk_sorted.specs.Joined.{joined}
use Rattle.sk_model.specs.Joined.{part_docs}
use Rattle.sk_documents.specs.Turned.{AreTurns, Turned}
use Rattle.sk_shards.specs.Sharded.{Sharded}
use Rattle.sk_shards.proofs.PartsLemmas.{docs_in, part_is}
use Rattle.sk_shards.proofs.parts.Parts.part.Goals as goal

pub returns-clause-documents : goal.returns-clause-documents
returns-clause-documents c =
    part_is c.parts.result.now c.self.inside.documents.live.documents c.args.i c.index-parts-i.result
    (subst (AreTurns docs_in) (sym c.parts.ensures.value) c.parts.ensures.sound)
    (ap (λ ps. joined (map docs_in ps)) c.parts.ensures.value ∙ c.keeper.ensures.documents)
    (search rules) c.index-parts-i.is
    ∙ ap (λ ps. part_docs (length ps) c.args.i c.self.inside.documents.live.documents) (c.parts.ensures.value ∙ ap (λ (t : Turned _). t.parts) c.keeper.ensures.value)
    ∙ ap (λ (s : Sharded). part_docs (length s.indexes) c.args.i s.live.documents) c.self.view_is
