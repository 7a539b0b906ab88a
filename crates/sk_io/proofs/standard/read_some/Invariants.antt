use Rattle.std.specs.Io.KnownBytes.{Keeps}
use Rattle.sk_io.proofs.standard.read_some.Given as goal

abbrev pub invariant-tries : goal.invariant-tries
invariant-tries g l = Keeps (g.T.Read.remaining l.fn.reader) (g.T.Read.remaining l.reader)
