use Rattle.std.proofs.Common.{rules, ◌≡◌, [], sym, subst, All}
use Rattle.std.proofs.lemmas.List.Elements.{All-push}
use Rattle.sk_index.specs.Indexed.{Indexed}
use Rattle.sk_shards.proofs.parts.empty_indexes.Goals as goal

pub parts-preserved : goal.parts-preserved
parts-preserved c = (
  search rules,
  subst (λ is. All (λ (i : Indexed). i.live.documents ≡ []) is) (sym c.in_ok-push.ensures.items) (All-push (λ (i : Indexed). i.live.documents ≡ []) c.parts.indexes.items c.in_ok-index.index c.parts.invariant.1 (search rules)),
)
