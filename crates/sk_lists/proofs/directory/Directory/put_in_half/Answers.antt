-- A new entry in the chunk where it belongs, which is cut in two, is a new entry of the whole.
use Rattle.std.proofs.Common.{arith}
use Rattle.sk_lists.proofs.DirectoryLemmas.{split_new, split_full, split_flat, split_count, split_directory}
use Rattle.sk_lists.proofs.directory.Directory.put_in_half.Goals as goal

pub insert_and_split-requires-clause-new : goal.insert_and_split-requires-clause-new
insert_and_split-requires-clause-new c =
    split_new c.args.id c.args.at c.args.wdf c.self.inside.chunks.items c.args.self.now c.reserve.new.self.items _ _ c.self.view_is c.self.invariant c.requires.there c.requires.fits c.index_mut.result.now
    c.in_ok-reserve.ensures.items c.index_mut.ensures.value c.requires.full c.requires.new

pub insert_and_split-requires-clause-at : goal.insert_and_split-requires-clause-at
insert_and_split-requires-clause-at c =
    let full = split_full c.args.id c.args.at c.args.wdf c.self.inside.chunks.items c.args.self.now c.reserve.new.self.items _ _ c.self.view_is c.self.invariant c.requires.there c.requires.fits c.index_mut.result.now
    c.in_ok-reserve.ensures.items c.index_mut.ensures.value c.requires.full c.requires.new in
    (omega arith, omega (arith, full))

pub overflow_add-self : goal.overflow_add-self
overflow_add-self c =
    let fits = split_count c.args.id c.args.at c.args.wdf c.self.inside.chunks.items c.args.self.now c.reserve.new.self.items _ _ c.self.view_is c.self.invariant c.requires.there c.requires.fits c.index_mut.result.now
    c.in_ok-reserve.ensures.items c.index_mut.ensures.value c.requires.full c.requires.new
    c.insert_and_split.new.self c.in_ok-rest.rest c.insert_reserved.new.chunks.items c.in_ok-rest.ensures.ok c.in_ok-rest.ensures.rest c.insert_reserved.ensures c.requires.id c.ranges.id.fits in
    omega (arith, fits)

pub invariant_of-self-2 : goal.invariant_of-self-2
invariant_of-self-2 c =
    split_directory c.args.id c.args.at c.args.wdf c.self.inside.chunks.items c.args.self.now c.reserve.new.self.items _ _ c.self.view_is c.self.invariant c.requires.there c.requires.fits c.index_mut.result.now
    c.in_ok-reserve.ensures.items c.index_mut.ensures.value c.requires.full c.requires.new
    c.insert_and_split.new.self c.in_ok-rest.rest c.insert_reserved.new.chunks.items c.in_ok-rest.ensures.ok c.in_ok-rest.ensures.rest c.insert_reserved.ensures c.requires.id c.ranges.id.fits _ c.max-self-inside.ensures

pub returns-clause-ok : goal.returns-clause-ok
returns-clause-ok c =
    split_flat c.args.id c.args.at c.args.wdf c.self.inside.chunks.items c.args.self.now c.reserve.new.self.items _ _ c.self.view_is c.self.invariant c.requires.there c.requires.fits c.index_mut.result.now
    c.in_ok-reserve.ensures.items c.index_mut.ensures.value c.requires.full c.requires.new
    c.insert_and_split.new.self c.in_ok-rest.rest c.insert_reserved.new.chunks.items c.in_ok-rest.ensures.ok c.in_ok-rest.ensures.rest c.insert_reserved.ensures
