use Rattle.std.proofs.Common.{sym}
use Rattle.sk_model.proofs.NearLaws.{near_holds}
use Rattle.sk_near.proofs.WindowLemmas.{not_near}
use Rattle.sk_near.proofs.windows.near.Goals as goal

pub returns-in_default : goal.returns-in_default
returns-in_default g c = sym (not_near c.args.window (g.P.Operands.places c.args.lists.now) c.requires.wide c.in_default.ensures)

pub returns-then-raised-low : goal.returns-then-raised-low
returns-then-raised-low g c =
    sym (near_holds c.args.window c.requires.wide (g.P.Operands.places c.args.lists.now) c.in-Some.raised c.requires.some (c.in-Some.ensures.found c.if-raised-low.true))
