-- An edit of the chunk where the entry belongs is an edit of the whole.
use Rattle.std.proofs.Common.{◌<◌, length, sym, ap, subst, ◌∙◌, arith}
use mathlib.Core.Bool.{true≢false}
use Rattle.sk_sorted.specs.Runs.{flat}
use Rattle.sk_chunks.specs.Postings.{greatest_wdf}
use Rattle.sk_lists.specs.Lists.{Runs}
use Rattle.sk_sorted.proofs.RunEditLaws.{same_read, read_set}
use Rattle.sk_lists.proofs.DirectoryLemmas.{has_run, greatest_was, grows, count_fits, length_new, flat_put, directory_put}
use Rattle.sk_lists.proofs.directory.Directory.put_in.Goals as goal

pub returns-in_err-insert-clause-succeeds : goal.returns-in_err-insert-clause-succeeds
returns-in_err-insert-clause-succeeds c there =
    absurd (true≢false (sym (c.in_err-insert.ensures.succeeds (has_run c.args.id c.args.at c.self.inside.chunks.items c.args.self.now _ _ c.self.view_is c.self.invariant c.requires.there c.requires.fits c.index_mut.result.now c.index_mut.ensures.value ∙ there))))

pub overflow_sub-self : goal.overflow_sub-self
overflow_sub-self c =
    let lt = subst (λ (s : Runs). c.args.at < length s) (sym c.self.view_is) c.requires.there in
    let before = same_read c.self.inside.chunks.items c.args.at c.index.result.now c.index_mut.result.now lt c.index.ensures c.index_mut.ensures.value in
    let after = read_set c.self.inside.chunks.items c.args.at c.insert.new.self c.index-3.result.now lt c.index-3.ensures in
    let more = grows c.args.id c.args.at c.self.inside.chunks.items c.args.self.now _ _ c.self.view_is c.self.invariant c.requires.there c.requires.fits c.index_mut.result.now c.index_mut.ensures.value
    c.args.wdf c.insert.new.self c.in_ok-insert.ensures.ok in
    omega (arith, c.count-count.ensures.value, c.count.ensures.value, ap length before, ap length after, more)

pub overflow_add-self : goal.overflow_add-self
overflow_add-self c =
    let lt = subst (λ (s : Runs). c.args.at < length s) (sym c.self.view_is) c.requires.there in
    let before = same_read c.self.inside.chunks.items c.args.at c.index.result.now c.index_mut.result.now lt c.index.ensures c.index_mut.ensures.value in
    let after = read_set c.self.inside.chunks.items c.args.at c.insert.new.self c.index-3.result.now lt c.index-3.ensures in
    let total = length_new c.args.id c.args.at c.self.inside.chunks.items c.args.self.now _ _ c.self.view_is c.self.invariant c.requires.there c.requires.fits c.index_mut.result.now c.index_mut.ensures.value c.insert.new.self in
    let fits = count_fits c.args.id c.args.at c.self.inside.chunks.items c.args.self.now _ _ c.self.view_is c.self.invariant c.requires.there c.requires.fits c.index_mut.result.now c.index_mut.ensures.value
    c.args.wdf c.insert.new.self c.in_ok-insert.ensures.ok c.requires.id c.ranges.id.fits in
    omega (arith, c.count-count.ensures.value, c.count.ensures.value, ap length before, ap length after, total, fits)

pub greatest_behind-self-inside-requires-clause-was : goal.greatest_behind-self-inside-requires-clause-was
greatest_behind-self-inside-requires-clause-was c =
    let lt = subst (λ (s : Runs). c.args.at < length s) (sym c.self.view_is) c.requires.there in
    let same = same_read c.self.inside.chunks.items c.args.at c.index-2.result.now c.index_mut.result.now lt c.index-2.ensures c.index_mut.ensures.value in
    greatest_was c.args.id c.args.at c.self.inside.chunks.items c.args.self.now _ _ c.self.view_is c.self.invariant c.requires.there c.requires.fits c.index_mut.result.now c.index_mut.ensures.value
    c.insert.new.self c.as_slice.result.now c.greatest-most.result (c.greatest-most.ensures ∙ ap greatest_wdf same) c.as_slice.ensures.value

pub invariant_of-self-2 : goal.invariant_of-self-2
invariant_of-self-2 c =
    let lt = subst (λ (s : Runs). c.args.at < length s) (sym c.self.view_is) c.requires.there in
    let before = same_read c.self.inside.chunks.items c.args.at c.index.result.now c.index_mut.result.now lt c.index.ensures c.index_mut.ensures.value in
    let after = read_set c.self.inside.chunks.items c.args.at c.insert.new.self c.index-3.result.now lt c.index-3.ensures in
    let more = grows c.args.id c.args.at c.self.inside.chunks.items c.args.self.now _ _ c.self.view_is c.self.invariant c.requires.there c.requires.fits c.index_mut.result.now c.index_mut.ensures.value
    c.args.wdf c.insert.new.self c.in_ok-insert.ensures.ok in
    directory_put c.args.id c.args.at c.self.inside.chunks.items c.args.self.now _ _ c.self.view_is c.self.invariant c.requires.there c.requires.fits c.index_mut.result.now c.index_mut.ensures.value
    c.args.wdf c.insert.new.self c.in_ok-insert.ensures.ok c.requires.id c.ranges.id.fits _ _
    (omega (arith, c.count-count.ensures.value, c.count.ensures.value, ap length before, ap length after, more))
    (c.greatest_behind-self-inside.ensures ∙ ap (λ (s : Runs). greatest_wdf (flat s)) c.as_slice.ensures.value)

pub returns-clause-ok : goal.returns-clause-ok
returns-clause-ok c =
    flat_put c.args.id c.args.at c.self.inside.chunks.items c.args.self.now _ _ c.self.view_is c.self.invariant c.requires.there c.requires.fits c.index_mut.result.now c.index_mut.ensures.value
    c.args.wdf c.insert.new.self c.in_ok-insert.ensures.ok
