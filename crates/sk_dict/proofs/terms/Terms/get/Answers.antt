use Rattle.std.proofs.Common.{length, ap, arith, rules}
use Rattle.sk_dict.proofs.CutLemmas.{IsPart, has_end, read_part, read_inside}
use Rattle.sk_dict.proofs.terms.Terms.get.Goals as goal

pub start-requires : goal.start-requires
start-requires c =
    omega (arith, has_end c.self.inside.bytes.items c.self.inside.ends.items c.self.inside.heads.items c.args.self.now c.args.number c.self.invariant c.self.view_is c.requires, ap length c.deref-2.ensures.value)

pub index-requires : goal.index-requires
index-requires c =
    omega (arith, has_end c.self.inside.bytes.items c.self.inside.ends.items c.self.inside.heads.items c.args.self.now c.args.number c.self.invariant c.self.view_is c.requires, c.self.inside.ends.ok.0)

-- the part is one of the bytes
pub slice_bounds-result-count : goal.slice_bounds-result-count
slice_bounds-result-count c =
    (read_inside c.self.inside.bytes.items c.self.inside.ends.items c.self.inside.heads.items c.args.self.now c.args.number c.self.invariant c.self.view_is c.requires
    c.deref.result.now c.deref-2.result.now _ _ c.deref.ensures.value c.deref-2.ensures.value c.start.ensures c.index.ensures).rises

pub slice_bounds-result-start : goal.slice_bounds-result-start
slice_bounds-result-start c =
    let part : IsPart c.start.result c.index.result.now (length c.deref.result.now) = read_inside c.self.inside.bytes.items c.self.inside.ends.items c.self.inside.heads.items c.args.self.now c.args.number c.self.invariant c.self.view_is c.requires
    c.deref.result.now c.deref-2.result.now _ _ c.deref.ensures.value c.deref-2.ensures.value c.start.ensures c.index.ensures in
    search rules

pub slice_bounds-result-end : goal.slice_bounds-result-end
slice_bounds-result-end c =
    let part : IsPart c.start.result c.index.result.now (length c.deref.result.now) = read_inside c.self.inside.bytes.items c.self.inside.ends.items c.self.inside.heads.items c.args.self.now c.args.number c.self.invariant c.self.view_is c.requires
    c.deref.result.now c.deref-2.result.now _ _ c.deref.ensures.value c.deref-2.ensures.value c.start.ensures c.index.ensures in
    search rules

pub returns : goal.returns
returns c =
    read_part c.self.inside.bytes.items c.self.inside.ends.items c.self.inside.heads.items c.args.self.now c.args.number c.self.invariant c.self.view_is c.requires
    c.deref.result.now c.deref-2.result.now _ _ c.deref.ensures.value c.deref-2.ensures.value c.start.ensures c.index.ensures
