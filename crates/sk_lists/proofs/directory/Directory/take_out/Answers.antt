-- An edit of the chunk where the entry belongs is an edit of the whole.
use Rattle.std.proofs.Common.{◌<◌, length, sym, ap, subst, ◌∙◌, arith}
use Rattle.sk_sorted.specs.Runs.{flat}
use Rattle.sk_chunks.specs.Postings.{greatest_wdf}
use Rattle.sk_lists.specs.Lists.{Runs, IsDirectory}
use Rattle.sk_sorted.proofs.RunEditLaws.{same_read, read_set, length_out, nil_is}
use Rattle.sk_lists.proofs.DirectoryLemmas.{has_run, greatest_was, length_new, nothing_out, flat_without, directory_without, flat_gone, directory_gone}
use Rattle.sk_lists.proofs.directory.Directory.take_out.Goals as goal

pub invariant_of-self : goal.invariant_of-self
invariant_of-self c =
    let none = sym c.remove.ensures.there ∙ c.if-not-remove.true in
    subst (λ (s : Runs). IsDirectory s c.self.inside.length c.self.inside.greatest) (sym (nothing_out c.args.id c.args.at c.self.inside.chunks.items c.args.self.now _ _ c.self.view_is c.self.invariant c.requires.there c.requires.fits c.index_mut.result.now c.index_mut.ensures.value c.remove.new.self c.remove.ensures.after none)) c.self.invariant

pub returns-then-not-remove-clause-after : goal.returns-then-not-remove-clause-after
returns-then-not-remove-clause-after c = flat_without c.args.id c.args.at c.self.inside.chunks.items c.args.self.now _ _ c.self.view_is c.self.invariant c.requires.there c.requires.fits c.index_mut.result.now c.index_mut.ensures.value c.remove.new.self c.remove.ensures.after

pub returns-then-not-remove-clause-there : goal.returns-then-not-remove-clause-there
returns-then-not-remove-clause-there c =
    let none = sym c.remove.ensures.there ∙ c.if-not-remove.true in
    sym none ∙ has_run c.args.id c.args.at c.self.inside.chunks.items c.args.self.now _ _ c.self.view_is c.self.invariant c.requires.there c.requires.fits c.index_mut.result.now c.index_mut.ensures.value

pub greatest_behind-self-inside-requires-clause-was : goal.greatest_behind-self-inside-requires-clause-was
greatest_behind-self-inside-requires-clause-was c =
    let lt = subst (λ (s : Runs). c.args.at < length s) (sym c.self.view_is) c.requires.there in
    let same = same_read c.self.inside.chunks.items c.args.at c.index.result.now c.index_mut.result.now lt c.index.ensures c.index_mut.ensures.value in
    greatest_was c.args.id c.args.at c.self.inside.chunks.items c.args.self.now _ _ c.self.view_is c.self.invariant c.requires.there c.requires.fits c.index_mut.result.now c.index_mut.ensures.value
    c.remove.new.self c.as_slice.result.now c.greatest-most.result (c.greatest-most.ensures ∙ ap greatest_wdf same) c.as_slice.ensures.value

pub invariant_of-self-then-count-eq0 : goal.invariant_of-self-then-count-eq0
invariant_of-self-then-count-eq0 c =
    let total = length_new c.args.id c.args.at c.self.inside.chunks.items c.args.self.now _ _ c.self.view_is c.self.invariant c.requires.there c.requires.fits c.index_mut.result.now c.index_mut.ensures.value c.remove.new.self in
    let one = length_out c.args.id c.index_mut.result.now (sym c.remove.ensures.there ∙ c.if-not-remove.false) in
    let lt = subst (λ (s : Runs). c.args.at < length s) (sym c.self.view_is) c.requires.there in
    let after = read_set c.self.inside.chunks.items c.args.at c.remove.new.self c.index-2.result.now lt c.index-2.ensures in
    directory_gone c.args.id c.args.at c.self.inside.chunks.items c.args.self.now _ _ c.self.view_is c.self.invariant c.requires.there c.requires.fits c.index_mut.result.now c.index_mut.ensures.value c.remove.new.self c.remove.ensures.after c.remove-then-count-eq0.new.self.items c.remove-then-count-eq0.ensures.items
    (nil_is c.remove.new.self (omega (arith, ap length after, c.count.ensures.value, c.if-count-eq0.true))) _ _
    (omega (arith, total, one, ap length c.remove.ensures.after))
    (c.greatest_behind-self-inside.ensures ∙ ap (λ (s : Runs). greatest_wdf (flat s)) c.as_slice.ensures.value)

pub invariant_of-self-else-count-eq0 : goal.invariant_of-self-else-count-eq0
invariant_of-self-else-count-eq0 c =
    let total = length_new c.args.id c.args.at c.self.inside.chunks.items c.args.self.now _ _ c.self.view_is c.self.invariant c.requires.there c.requires.fits c.index_mut.result.now c.index_mut.ensures.value c.remove.new.self in
    let one = length_out c.args.id c.index_mut.result.now (sym c.remove.ensures.there ∙ c.if-not-remove.false) in
    let lt = subst (λ (s : Runs). c.args.at < length s) (sym c.self.view_is) c.requires.there in
    let after = read_set c.self.inside.chunks.items c.args.at c.remove.new.self c.index-2.result.now lt c.index-2.ensures in
    directory_without c.args.id c.args.at c.self.inside.chunks.items c.args.self.now _ _ c.self.view_is c.self.invariant c.requires.there c.requires.fits c.index_mut.result.now c.index_mut.ensures.value c.remove.new.self c.remove.ensures.after
    (omega (arith, ap length after, c.count.ensures.value, c.if-count-eq0.false)) _ _
    (omega (arith, total, one, ap length c.remove.ensures.after))
    (c.greatest_behind-self-inside.ensures ∙ ap (λ (s : Runs). greatest_wdf (flat s)) c.as_slice.ensures.value)

pub returns-then-count-eq0-clause-after : goal.returns-then-count-eq0-clause-after
returns-then-count-eq0-clause-after c =
    let lt = subst (λ (s : Runs). c.args.at < length s) (sym c.self.view_is) c.requires.there in
    let after = read_set c.self.inside.chunks.items c.args.at c.remove.new.self c.index-2.result.now lt c.index-2.ensures in
    flat_gone c.args.id c.args.at c.self.inside.chunks.items c.args.self.now _ _ c.self.view_is c.self.invariant c.requires.there c.requires.fits c.index_mut.result.now c.index_mut.ensures.value c.remove.new.self c.remove.ensures.after c.remove-then-count-eq0.new.self.items c.remove-then-count-eq0.ensures.items
    (nil_is c.remove.new.self (omega (arith, ap length after, c.count.ensures.value, c.if-count-eq0.true)))

pub returns-then-count-eq0-clause-there : goal.returns-then-count-eq0-clause-there
returns-then-count-eq0-clause-there c = sym c.if-not-remove.false ∙ c.remove.ensures.there ∙ has_run c.args.id c.args.at c.self.inside.chunks.items c.args.self.now _ _ c.self.view_is c.self.invariant c.requires.there c.requires.fits c.index_mut.result.now c.index_mut.ensures.value

pub returns-else-count-eq0-clause-after : goal.returns-else-count-eq0-clause-after
returns-else-count-eq0-clause-after c = flat_without c.args.id c.args.at c.self.inside.chunks.items c.args.self.now _ _ c.self.view_is c.self.invariant c.requires.there c.requires.fits c.index_mut.result.now c.index_mut.ensures.value c.remove.new.self c.remove.ensures.after

pub returns-else-count-eq0-clause-there : goal.returns-else-count-eq0-clause-there
returns-else-count-eq0-clause-there c = sym c.if-not-remove.false ∙ c.remove.ensures.there ∙ has_run c.args.id c.args.at c.self.inside.chunks.items c.args.self.now _ _ c.self.view_is c.self.invariant c.requires.there c.requires.fits c.index_mut.result.now c.index_mut.ensures.value
