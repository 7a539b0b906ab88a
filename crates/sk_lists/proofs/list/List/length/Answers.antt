-- The chunks of a list are in order, so its entries are.
use Rattle.std.proofs.Common.{sym, ap, subst, ◌∙◌}
use Rattle.sk_sorted.specs.Entries.{AreSorted}
use Rattle.sk_sorted.specs.Runs.{flat}
use Rattle.sk_sorted.proofs.RunLaws.{AreRuns-sorted}
use Rattle.sk_lists.specs.Lists.{Runs}
use Rattle.sk_lists.specs.Forms.{runs_of}
use Rattle.sk_lists.proofs.list.List.length.Goals as goal

pub returns-in-Many-clause-sound : goal.returns-in-Many-clause-sound
returns-in-Many-clause-sound c =
    subst (λ (rs : Runs). AreSorted (flat rs)) (sym (ap runs_of c.in-Many.is) ∙ c.self.view_is) (AreRuns-sorted _ c.length.ensures.sound)
