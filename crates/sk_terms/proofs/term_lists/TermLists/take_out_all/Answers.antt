-- One term more.
use Rattle.std.proofs.Common.{◌∙◌, arith}
use Rattle.sk_terms.proofs.NamedLemmas.{takes_next, takes_end}
use Rattle.sk_terms.proofs.term_lists.TermLists.take_out_all.Goals as goal

pub terms-preserved : goal.terms-preserved
terms-preserved c = record {
  rest = takes_next c.args.id c.terms.i c.number.result c.args.packed.now c.args.self.now c.terms.self c.take_out.new.self c.requires.rising (omega arith) c.number.ensures c.terms.invariant.same
      c.terms.invariant.rest c.take_out.ensures.takes;
  same = c.take_out.ensures.terms ∙ c.terms.invariant.same;
}

pub returns-clause-takes : goal.returns-clause-takes
returns-clause-takes c = takes_end c.args.id c.terms.i c.args.packed.now c.args.self.now c.terms.self (omega arith) c.terms.invariant.rest
