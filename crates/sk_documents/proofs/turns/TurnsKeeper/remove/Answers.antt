use Rattle.std.proofs.Common.{sym, ap, arith, map, is_some}
use Rattle.sk_sorted.proofs.EntryLaws.{without-below, found-below}
use Rattle.sk_sorted.specs.Joined.{joined}
use Rattle.sk_sorted.proofs.JoinedLaws.{rise-joined}
use Rattle.sk_documents.proofs.turns.TurnsKeeper.remove.Goals as goal

pub returns-then-id-eq0-clause-left : goal.returns-then-id-eq0-clause-left
returns-then-id-eq0-clause-left g c =
    sym (without-below 0 c.args.id (joined (map g.K.Keeper.documents c.args.self.now.parts)) (omega (arith, c.if-id-eq0.true)) (rise-joined (map g.K.Keeper.documents c.args.self.now.parts)))

pub returns-then-id-eq0-clause-there : goal.returns-then-id-eq0-clause-there
returns-then-id-eq0-clause-there g c =
    sym (ap is_some (found-below 0 c.args.id (joined (map g.K.Keeper.documents c.args.self.now.parts)) (omega (arith, c.if-id-eq0.true)) (rise-joined (map g.K.Keeper.documents c.args.self.now.parts))))
