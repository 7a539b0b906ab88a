-- Entries behind sorted ones make one sorted list with them.
use Rattle.std.proofs.Common.{List, ℕ, sym, subst}
use Rattle.sk_sorted.specs.Entries.{AreSorted, RiseAbove, top_id}
use Rattle.sk_sorted.proofs.EndLaws.{AreSorted-append}
use Rattle.sk_sorted.proofs.sorted.Sorted.append.Goals as goal

pub invariant_of-self : goal.invariant_of-self
invariant_of-self g c =
    subst AreSorted (sym c.in-Ok.ensures.items)
    (AreSorted-append c.self.inside.entries.items c.other.inside.entries.items c.self.invariant c.other.invariant
    (subst (λ (l : List (ℕ × g.row.T.Denot)). RiseAbove (top_id 0 c.self.inside.entries.items) l) (sym c.other.view_is)
    (subst (λ (l : List (ℕ × g.row.T.Denot)). RiseAbove (top_id 0 l) c.args.other.now) (sym c.self.view_is) c.requires)))
