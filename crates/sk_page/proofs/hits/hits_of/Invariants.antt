use Rattle.std.proofs.Common.{◌≡◌, ◌+◌, length, map, take}
use Rattle.sk_page.specs.Hits.{ranked_of}
use Rattle.sk_page.proofs.hits.hits_of.Given as goal

abbrev pub invariant-hits : goal.invariant-hits
invariant-hits g l = (l.page.items ≡ map (ranked_of (g.R.Reader.documents l.reader) l.collapser) (take l.hit-index l.hits)) × (l.steps ≡ l.fn.steps + length l.page.items)
