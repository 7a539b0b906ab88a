use Rattle.std.proofs.Common.{◌∙◌, ◌<◌, ◌^◌, sym, ap, subst, map, length}
use Rattle.sk_sorted.specs.Joined.{joined}
use Rattle.sk_documents.specs.Turned.{Turned}
use Rattle.sk_documents.specs.Gathered.{total}
use Rattle.sk_documents.proofs.AllTurnsLaws.{total_fits, total-joined}
use Rattle.sk_documents.proofs.turns.TurnsKeeper.count.Goals as goal

pub count_all-requires : goal.count_all-requires
count_all-requires g c =
    subst (λ ps. total (map g.K.Keeper.documents ps) < 2 ^ 64) (sym c.as_slice.ensures.value) (total_fits (map g.K.Keeper.documents c.self.inside.parts.items) c.self.invariant.rise c.self.invariant.small)

pub returns : goal.returns
returns g c =
    c.count_all.ensures ∙ ap (λ ps. total (map g.K.Keeper.documents ps)) c.as_slice.ensures.value
    ∙ total-joined (map g.K.Keeper.documents c.self.inside.parts.items) c.self.invariant.rise
    ∙ ap (λ (t : Turned _). length (joined (map g.K.Keeper.documents t.parts))) c.self.view_is
