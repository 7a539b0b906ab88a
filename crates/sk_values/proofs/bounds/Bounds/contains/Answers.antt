-- The numbers decide as the ends do.
use Rattle.std.proofs.Common.{ap, ◌∙◌}
use Rattle.sk_model.specs.Ranges.{is_within}
use Rattle.sk_values.specs.Numbers.{Ends, IsLeast, IsGreatest}
use Rattle.sk_values.proofs.NumberLaws.{both_decide}
use Rattle.sk_values.proofs.bounds.Bounds.contains.Goals as goal

pub returns-in-Some-Some : goal.returns-in-Some-Some
returns-in-Some-Some c =
    let ends : IsLeast c.self.inside.lo c.in-Some-Some.least × IsGreatest c.self.inside.hi c.in-Some-Some.greatest = rw c.in-Some-Some.is-0 at c.self.invariant in
    both_decide c.self.inside.lo c.self.inside.hi c.in-Some-Some.least c.in-Some-Some.greatest c.in-Some-Some.n c.args.value.now ends.0 ends.1 c.in-Some-Some.ensures
    ∙ ap (λ (e : Ends). is_within e.lo e.hi c.args.value.now) c.self.view_is
