use Rattle.std.proofs.Common.{rules, ◌∙◌, ap, map}
use Rattle.sk_model.specs.Edits.{put_document}
use Rattle.sk_sorted.specs.Joined.{joined}
use Rattle.sk_documents.specs.Turned.{Turned}
use Rattle.sk_documents.proofs.TurnLaws.{free_there, put_made, put_sound}
use Rattle.sk_documents.proofs.turns.Turns.put_in.Goals as goal

pub put-requires-clause-free : goal.put-requires-clause-free
put-requires-clause-free g c =
    free_there g.K.Keeper.documents c.self.inside.parts.items c.self.invariant c.args.id c.requires.id c.len-count.result c.part_of-at.result c.own_id.result
    (search rules) c.part_of-at.ensures.value c.own_id.ensures.value c.remove.result c.remove.ensures.value (search rules)

pub invariant_of-result : goal.invariant_of-result
invariant_of-result g c =
    put_sound g.K.Keeper.documents c.self.inside.parts.items c.self.invariant c.args.id c.requires.id c.len-count.result c.part_of-at.result c.own_id.result
    (search rules) c.part_of-at.ensures.value c.own_id.ensures.value c.remove.result c.remove.ensures.value c.in_ok-part.part c.args.doc c.in_ok-part.ensures.documents c.insert.new.self.items (search rules) (search rules)

pub returns-clause-documents : goal.returns-clause-documents
returns-clause-documents g c =
    put_made g.K.Keeper.documents c.self.inside.parts.items c.self.invariant c.args.id c.requires.id c.len-count.result c.part_of-at.result c.own_id.result
    (search rules) c.part_of-at.ensures.value c.own_id.ensures.value c.remove.result c.remove.ensures.value c.in_ok-part.part c.args.doc c.in_ok-part.ensures.documents c.insert.new.self.items (search rules)
    ∙ ap (λ (t : Turned _). put_document c.args.id c.args.doc (joined (map g.K.Keeper.documents t.parts))) c.self.view_is
