-- A chunk that is too light is passed over, and those behind it do not end below the target either.
use Rattle.std.proofs.Common.{arith, ◌<◌, ◌+◌, ◌∙◌, [], length, get_or, ap, sym, subst}
use Rattle.sk_sorted.specs.Entries.{top_id}
use Rattle.sk_sorted.specs.Ends.{EndsRise}
use Rattle.sk_sorted.proofs.ReachLaws.{runs_rise}
use Rattle.sk_chunks.specs.Postings.{greatest_wdf}
use Rattle.sk_lists.specs.Lists.{Runs}
use Rattle.sk_lists.proofs.CursorLemmas.{reaches_on, skips_more}
use Rattle.sk_lists.proofs.cursor.find.Goals as goal

pub first_reaching-at-requires-clause-rise : goal.first_reaching-at-requires-clause-rise
first_reaching-at-requires-clause-rise c = subst (λ (rs : Runs). EndsRise (top_id 0) 0 rs) (sym c.as_slice.ensures.value) (runs_rise c.args.list.now c.as_slice.ensures.sound)

pub chunks-preserved : goal.chunks-preserved
chunks-preserved c =
    let inside : c.chunks.at < length c.args.list.now = omega (arith, c.chunks-test.true, c.chunks.invariant.count) in
    let light : greatest_wdf (get_or c.args.list.now c.chunks.at []) < c.args.need_wdf = omega (arith, c.greatest.ensures ∙ ap greatest_wdf c.chunk.ensures, c.if-need_wdf-greatest.false) in
    record {
      from = omega (arith, c.chunks.invariant.from);
      within = omega (arith, inside);
      count = c.chunks.invariant.count;
      skips = skips_more c.args.target c.args.need_wdf c.args.run c.chunks.at c.args.list.now c.chunks.invariant.skips light;
      reaches = λ lt. reaches_on c.args.target c.chunks.at (c.chunks.at + 1) c.args.list.now c.chunks-count.ensures.sound (omega arith) lt (c.chunks.invariant.reaches inside);
    }
