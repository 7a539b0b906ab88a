use Rattle.sk_engine.proofs.SeveralLaws.{never_several}
use Rattle.sk_engine.proofs.session.Session.fly.Goals as goal

pub unreachable-requires : goal.unreachable-requires
unreachable-requires g c = never_several c.args.self.now c.in_default.field-0 c.in_default.is c.requires.whole
