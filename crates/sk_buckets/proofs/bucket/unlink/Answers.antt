use Rattle.std.proofs.Common.{◌<◌, length, rules}
use Rattle.sk_buckets.proofs.ChainLemmas.{among_all, left_later, apart_kept}
use Rattle.sk_buckets.proofs.bucket.unlink.Goals as goal

pub bounds-next-which : goal.bounds-next-which
bounds-next-which c = c.requires.within c.args.which c.requires.there

pub offset_bounds-next-which : goal.offset_bounds-next-which
offset_bounds-next-which c = let in' : c.args.which < length c.args.next.now = c.requires.within c.args.which c.requires.there in search rules

pub bounds-next-which-2 : goal.bounds-next-which-2
bounds-next-which-2 c = c.requires.within c.args.which c.requires.there

pub offset_bounds-next-which-2 : goal.offset_bounds-next-which-2
offset_bounds-next-which-2 c = let in' : c.args.which < length c.args.next.now = c.requires.within c.args.which c.requires.there in search rules

pub bounds-next-before : goal.bounds-next-before
bounds-next-before c = c.requires.within c.before-before.result (among_all c.args.count c.args.next.now c.args.first c.before-before.result c.before-before.ensures.there)

pub offset_bounds-next-before : goal.offset_bounds-next-before
offset_bounds-next-before c =
    let in' : c.before-before.result < length c.args.next.now = c.requires.within c.before-before.result (among_all c.args.count c.args.next.now c.args.first c.before-before.result c.before-before.ensures.there) in
    search rules

pub returns-clause-left : goal.returns-clause-left
returns-clause-left c = left_later c.args.count c.args.next.now c.args.first c.before-before.result c.args.which
    (c.requires.within c.before-before.result (among_all c.args.count c.args.next.now c.args.first c.before-before.result c.before-before.ensures.there))
    c.before-before.ensures.there c.before-before.ensures.next c.requires.differ

pub returns-clause-apart : goal.returns-clause-apart
returns-clause-apart c = λ n i apart. apart_kept c.args.count c.args.next.now c.args.first c.before-before.result _ n i c.before-before.ensures.there apart
