use Rattle.std.proofs.Common.{◌∙◌, [], get_or, sym, arith}
use Rattle.sk_near.proofs.SoonestLemmas.{first_is_one}
use Rattle.sk_near.proofs.PhraseLemmas.{no_phrase, is_found, begin_later}
use Rattle.sk_near.proofs.phrases.phrase.Goals as goal

pub returns-in_default : goal.returns-in_default
returns-in_default g c = sym (no_phrase c.args.window c.requires.wide (g.P.Operands.places c.args.lists.now) c.starts.low c.requires.some c.starts.invariant.begins c.in_default.ensures.value)

pub returns-in_default-end_from : goal.returns-in_default-end_from
returns-in_default-end_from g c =
    sym (no_phrase c.args.window c.requires.wide (g.P.Operands.places c.args.lists.now) c.starts.low c.requires.some c.starts.invariant.begins
    (c.in-Some.ensures.value.rest ∙ sym c.in_default-end_from.ensures.value))

pub returns-then-end-taken : goal.returns-then-end-taken
returns-then-end-taken g c =
    sym (is_found c.args.window c.requires.wide (g.P.Operands.places c.args.lists.now) c.starts.low c.in-Some.taken.first c.in-Some-end_from.end c.requires.some c.in-Some.ensures.value.first
    (c.in-Some.ensures.value.rest ∙ sym c.in-Some-end_from.ensures.value) (omega (arith, c.from.ensures, c.if-end-taken.true)))

-- the first position is not below the bound
pub starts-smaller : goal.starts-smaller
starts-smaller g c =
    let one = first_is_one c.starts.low c.in-Some.taken.first (get_or (g.P.Operands.places c.args.lists.now) 0 []) c.in-Some.ensures.value.first in
    omega (arith, one.3, c.in-Some-end_from.ensures.small, c.from.ensures, c.from-in-starts.ensures, c.if-end-taken.false, c.starts.invariant.small)

pub starts-preserved : goal.starts-preserved
starts-preserved g c = record {
  begins = rw c.from-in-starts.ensures (begin_later c.args.window c.requires.wide (g.P.Operands.places c.args.lists.now) c.starts.low c.in-Some-end_from.end c.requires.some c.starts.invariant.begins
      (c.in-Some.ensures.value.rest ∙ sym c.in-Some-end_from.ensures.value));
  small = omega (arith, c.in-Some-end_from.ensures.small, c.from-in-starts.ensures, c.requires.wide);
}

pub overflow_add-taken : goal.overflow_add-taken
overflow_add-taken g c = omega (arith, c.in-Some.ensures.start, c.from.ensures, c.ranges.window)
