-- The chunk at the place is where the entry belongs; where all end before it, it is nowhere.
use Rattle.std.proofs.Common.{◌≡◌, length, sym, ap, arith}
use Rattle.sk_sorted.proofs.RunLaws.{fits_place}
use Rattle.sk_lists.specs.Lists.{Runs}
use Rattle.sk_sorted.proofs.RunEditLaws.{nowhere, nothing_without}
use Rattle.sk_lists.proofs.directory.Directory.remove.Goals as goal

pub returns-then-at-len-clause-after : goal.returns-then-at-len-clause-after
returns-then-at-len-clause-after c =
    let same : length c.self.inside.chunks.items ≡ length c.args.self.now = ap (λ (s : Runs). length s) c.self.view_is in
    sym (nothing_without c.args.id c.args.self.now c.place-at.ensures.sound (λ k lt. c.place-at.ensures.before k (omega (arith, same))))

pub returns-then-at-len-clause-there : goal.returns-then-at-len-clause-there
returns-then-at-len-clause-there c =
    let same : length c.self.inside.chunks.items ≡ length c.args.self.now = ap (λ (s : Runs). length s) c.self.view_is in
    sym (nowhere c.args.id c.args.self.now c.place-at.ensures.sound (λ k lt. c.place-at.ensures.before k (omega (arith, same))))

pub take_out-requires-clause-fits : goal.take_out-requires-clause-fits
take_out-requires-clause-fits c =
    let same : length c.self.inside.chunks.items ≡ length c.args.self.now = ap (λ (s : Runs). length s) c.self.view_is in
    fits_place 0 c.args.id c.args.self.now c.place-at.result c.place-at.ensures.sound.rise (omega (arith, same)) c.place-at.ensures.before (c.place-at.ensures.at (omega (arith, same)))
