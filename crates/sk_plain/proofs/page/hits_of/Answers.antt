use Rattle.std.proofs.Common.{map, drop, ◌+◌, arith}
use Rattle.sk_plain.specs.Pages.{hit_of}
use Rattle.sk_plain.proofs.KeptLemmas.{cut, map_more}
use Rattle.sk_plain.proofs.page.hits_of.Goals as goal

pub asked-preserved : goal.asked-preserved
asked-preserved c =
    map_more (hit_of c.args.paging.now c.args.docs.now.entries c.args.ranks.now) c.asked.hits.items c.push.new.self.items
    (map (hit_of c.args.paging.now c.args.docs.now.entries c.args.ranks.now) c.args.asked.now)
    (drop c.asked.rank-index c.args.asked.now) (drop (c.asked.rank-index + 1) c.args.asked.now) c.rank-item.result c.in_ok-hit.hit
    (cut c.args.asked.now c.asked.rank-index c.rank-item.result (omega arith) c.rank-item.is)
    c.in_ok-hit.ensures c.in_ok-push.ensures.items c.asked.invariant
