-- The chunk at the place is where the entry belongs.
use Rattle.std.proofs.Common.{◌≡◌, [], length, true, is_some, sym, ap, subst, ◌∙◌, arith}
use mathlib.Core.Bool.{true≢false}
use Rattle.sk_sorted.specs.Runs.{FitsAt}
use Rattle.sk_sorted.proofs.RunLaws.{fits_place, found_in_run}
use Rattle.sk_lists.specs.Lists.{Runs}
use Rattle.sk_lists.proofs.directory.Directory.insert.Goals.{then-count-lt-FULL-via-then-count-lt-FULL, then-count-lt-FULL-via-else-count-lt-FULL+then-has_in}
use Rattle.sk_lists.proofs.directory.Directory.insert.Goals as goal

pub put_in-requires-clause-fits : goal.put_in-requires-clause-fits
put_in-requires-clause-fits c =
    let same : length c.self.inside.chunks.items ≡ length c.args.self.now = ap (λ (s : Runs). length s) c.self.view_is in
    let fits = fits_place 0 c.args.id c.args.self.now c.place-at.result c.place-at.ensures.sound.rise (omega (arith, same)) c.place-at.ensures.before (c.place-at.ensures.at (omega (arith, same))) in
    elim c.then-count-lt-FULL.branch [
      | then-count-lt-FULL-via-then-count-lt-FULL w ↦ subst (λ (s : Runs). FitsAt c.args.id s c.place-at.result) (sym w.self-is) fits
      | then-count-lt-FULL-via-else-count-lt-FULL+then-has_in w ↦ subst (λ (s : Runs). FitsAt c.args.id s c.place-at.result) (sym (w.self-is ∙ w.has_in.ensures.same)) fits
    ]

pub put_in_half-requires-clause-fits : goal.put_in_half-requires-clause-fits
put_in_half-requires-clause-fits c =
    let same : length c.self.inside.chunks.items ≡ length c.args.self.now = ap (λ (s : Runs). length s) c.self.view_is in
    subst (λ (s : Runs). FitsAt c.args.id s c.place-at.result) (sym c.has_in.ensures.same)
    (fits_place 0 c.args.id c.args.self.now c.place-at.result c.place-at.ensures.sound.rise (omega (arith, same)) c.place-at.ensures.before (c.place-at.ensures.at (omega (arith, same))))

pub returns-in_err-put_in_half-clause-succeeds : goal.returns-in_err-put_in_half-clause-succeeds
returns-in_err-put_in_half-clause-succeeds c there =
    let same : length c.self.inside.chunks.items ≡ length c.args.self.now = ap (λ (s : Runs). length s) c.self.view_is in
    let fits = fits_place 0 c.args.id c.args.self.now c.place-at.result c.place-at.ensures.sound.rise (omega (arith, same)) c.place-at.ensures.before (c.place-at.ensures.at (omega (arith, same))) in
    let has : c.has_in.result ≡ true = c.has_in.ensures.value ∙ ap is_some (found_in_run 0 c.args.id c.args.self.now c.place-at.result [] c.place-at.ensures.sound.rise fits) ∙ there in
    absurd (true≢false (sym has ∙ c.if-has_in.false))
