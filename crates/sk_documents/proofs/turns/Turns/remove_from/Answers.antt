use Rattle.std.proofs.Common.{rules, ◌∙◌, ap, is_some, map}
use Rattle.sk_model.specs.Edits.{without_id, document_at}
use Rattle.sk_sorted.specs.Joined.{joined}
use Rattle.sk_documents.specs.Turned.{Turned}
use Rattle.sk_documents.proofs.TurnLaws.{same_there, taken_made, taken_sound}
use Rattle.sk_documents.proofs.turns.Turns.remove_from.Goals as goal

pub invariant_of-self : goal.invariant_of-self
invariant_of-self g c =
    taken_sound g.K.Keeper.documents c.self.inside.parts.items c.self.invariant c.args.id c.requires.id c.len-count.result c.part_of.result c.own_id.result
    (search rules) c.part_of.ensures.value c.own_id.ensures.value c.index_mut.result.now (search rules) c.remove.new.self (search rules)

pub returns-clause-left : goal.returns-clause-left
returns-clause-left g c =
    taken_made g.K.Keeper.documents c.self.inside.parts.items c.self.invariant c.args.id c.requires.id c.len-count.result c.part_of.result c.own_id.result
    (search rules) c.part_of.ensures.value c.own_id.ensures.value c.index_mut.result.now (search rules) c.remove.new.self (search rules)
    ∙ ap (λ (t : Turned _). without_id c.args.id (joined (map g.K.Keeper.documents t.parts))) c.self.view_is

pub returns-clause-there : goal.returns-clause-there
returns-clause-there g c =
    c.remove.ensures.there
    ∙ ap is_some (same_there g.K.Keeper.documents c.self.inside.parts.items c.self.invariant c.args.id c.requires.id c.len-count.result c.part_of.result c.own_id.result
    (search rules) c.part_of.ensures.value c.own_id.ensures.value c.index_mut.result.now (search rules))
    ∙ ap (λ (t : Turned _). is_some (document_at c.args.id (joined (map g.K.Keeper.documents t.parts)))) c.self.view_is
