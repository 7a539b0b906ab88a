use Rattle.std.proofs.Common.{◌≡◌, take}
use Rattle.sk_facets.specs.Tallied.{facets_in}
use Rattle.sk_facets.proofs.first.copies.Given as goal

abbrev pub invariant-entries : goal.invariant-entries
invariant-entries l = l.facets.items ≡ facets_in (take l.value-index l.entries)
