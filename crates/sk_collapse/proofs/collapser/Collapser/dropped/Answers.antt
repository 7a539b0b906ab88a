use Rattle.std.proofs.Common.{sym, ap, ◌∙◌}
use Rattle.sk_collapse.specs.Collapsed.{Collapsed, Group, group_of}
use Rattle.sk_collapse.proofs.GroupLemmas.{group_found, group_none}
use Rattle.sk_collapse.proofs.collapser.Collapser.dropped.Goals as goal

pub returns-in-Some : goal.returns-in-Some
returns-in-Some c =
    ap (λ (g : Group). g.dropped) (sym (group_found c.args.key.now c.in-Some.group.now c.self.inside.groups.entries (sym c.in-Some.ensures.value)))
    ∙ ap (λ (s : Collapsed). (group_of c.args.key.now s.groups).dropped) c.self.view_is

pub returns-in-None : goal.returns-in-None
returns-in-None c =
    ap (λ (g : Group). g.dropped) (sym (group_none c.args.key.now c.self.inside.groups.entries (sym c.in-None.ensures.value)))
    ∙ ap (λ (s : Collapsed). (group_of c.args.key.now s.groups).dropped) c.self.view_is
