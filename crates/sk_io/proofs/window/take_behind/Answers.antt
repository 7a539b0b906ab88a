use Rattle.std.proofs.Common.{◌≡◌, ◌+◌, ◌-◌, length, rules}
use Rattle.sk_io.proofs.Behind.{writes_behind}
use Rattle.sk_io.proofs.window.take_behind.Goals as goal

pub returns-clause-ok : goal.returns-clause-ok
returns-clause-ok g c =
    let len : length c.take.new.buf ≡ c.args.end + c.args.most - c.args.end = search (rules, c.take.auto.buf) in
    writes_behind c.args.buffer.now c.take.new.buf _ _ c.args.end c.args.most c.in_ok-n.n c.requires.some c.requires.fits len c.in_ok-n.ensures.bound.0 c.in_ok-n.ensures.bytes
