use Rattle.std.proofs.Common.{sym, ap, ◌∙◌, option_map}
use Rattle.serde_json.specs.Data.{object}
use Rattle.serde_json.specs.View.{view, members_view}
use Rattle.serde_json.specs.Find.{get}
use Rattle.serde_json.proofs.Views.{view-Object, view-lookup}
use Rattle.sk_record.specs.Taken.{without_member}
use Rattle.sk_record.proofs.TakenLemmas.{object_is, members_taken}
use Rattle.sk_record.proofs.taken.take_member.Goals as goal

pub returns-clause-taken : goal.returns-clause-taken
returns-clause-taken c =
    ap (option_map view) c.remove.ensures.value
    ∙ view-lookup c.args.name.now c.in_ok-members.members.now.entries
    ∙ sym (ap (get c.args.name.now) (object_is (view c.args.value.now) c.in_ok-members.members.now.entries c.in_ok-members.ensures.value))

pub returns-clause-left : goal.returns-clause-left
returns-clause-left c =
    view-Object c.remove.new.self
    ∙ ap (λ es. object (members_view es)) c.remove.ensures.entries
    ∙ ap object (members_taken c.args.name.now c.in_ok-members.members.now.entries c.remove.new.self.entries c.remove.ensures.entries c.remove.ensures.updates.1)
    ∙ sym (ap (without_member c.args.name.now) (object_is (view c.args.value.now) c.in_ok-members.members.now.entries c.in_ok-members.ensures.value))
