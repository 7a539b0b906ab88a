-- An entry behind all others is new, and stands last.
use Rattle.std.proofs.Common.{◌≡◌, length, ap, arith}
use Rattle.sk_sorted.proofs.RunLaws.{fits_last}
use Rattle.sk_lists.specs.Lists.{Runs}
use Rattle.sk_lists.proofs.DirectoryLemmas.{is_new, flat_longer, longer_fits, directory_longer}
use Rattle.sk_lists.proofs.directory.Directory.append.Goals as goal

pub put_in-requires-clause-fits : goal.put_in-requires-clause-fits
put_in-requires-clause-fits c =
    let same : length c.self.inside.chunks.items ≡ length c.args.self.now = ap (λ (s : Runs). length s) c.self.view_is in
    fits_last c.args.id c.args.self.now _ (omega (arith, same)) (λ k lt. c.requires.behind k (omega (arith, same)))

pub returns-then-count-lt-FULL-clause-new : goal.returns-then-count-lt-FULL-clause-new
returns-then-count-lt-FULL-clause-new c = is_new c.args.id c.args.wdf c.self.inside.chunks.items c.args.self.now _ _ c.self.view_is c.self.invariant c.requires.behind

pub returns-in_err-chunk-clause-new : goal.returns-in_err-chunk-clause-new
returns-in_err-chunk-clause-new c = is_new c.args.id c.args.wdf c.self.inside.chunks.items c.args.self.now _ _ c.self.view_is c.self.invariant c.requires.behind

pub returns-in_err-push-clause-new : goal.returns-in_err-push-clause-new
returns-in_err-push-clause-new c = is_new c.args.id c.args.wdf c.self.inside.chunks.items c.args.self.now _ _ c.self.view_is c.self.invariant c.requires.behind

pub overflow_add-self : goal.overflow_add-self
overflow_add-self c =
    omega (
      arith,
      longer_fits c.args.id c.args.wdf c.self.inside.chunks.items c.args.self.now _ _ c.self.view_is c.self.invariant c.requires.behind c.push.new.self.items c.in_ok-chunk.chunk c.in_ok-chunk.ensures
          c.in_ok-push.ensures.items c.requires.id c.ranges.id.fits,
    )

pub invariant_of-self-2 : goal.invariant_of-self-2
invariant_of-self-2 c =
    directory_longer c.args.id c.args.wdf c.self.inside.chunks.items c.args.self.now _ _ c.self.view_is c.self.invariant c.requires.behind c.push.new.self.items c.in_ok-chunk.chunk c.in_ok-chunk.ensures
    c.in_ok-push.ensures.items c.requires.id c.ranges.id.fits _ c.max-self-inside.ensures

pub returns-clause-ok : goal.returns-clause-ok
returns-clause-ok c =
    flat_longer c.args.id c.args.wdf c.self.inside.chunks.items c.args.self.now _ _ c.self.view_is c.self.invariant c.requires.behind c.push.new.self.items c.in_ok-chunk.chunk c.in_ok-chunk.ensures
    c.in_ok-push.ensures.items

pub returns-clause-new : goal.returns-clause-new
returns-clause-new c = is_new c.args.id c.args.wdf c.self.inside.chunks.items c.args.self.now _ _ c.self.view_is c.self.invariant c.requires.behind
