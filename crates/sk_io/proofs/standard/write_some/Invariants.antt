use Rattle.std.specs.Io.KnownBytes.{Keeps}
use Rattle.sk_io.proofs.standard.write_some.Given as goal

abbrev pub invariant-tries : goal.invariant-tries
invariant-tries g l = Keeps (g.T.Write.contents l.fn.writer) (g.T.Write.contents l.writer)
