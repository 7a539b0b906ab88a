-- What the terms that are left do from here on, all terms do from the start.
use Rattle.std.proofs.Common.{◌≡◌, drop}
use Rattle.sk_terms.specs.Listed.{Listed, TakesOutAll}
use Rattle.sk_terms.specs.Named.{named_all}
use Rattle.sk_terms.proofs.term_lists.TermLists.take_out_all.Given as goal

abbrev pub invariant-terms : goal.invariant-terms
invariant-terms l = record {
  rest : (new : Listed) → TakesOutAll l.id (drop l.i (named_all l.initial.self.terms l.packed)) l.self new → TakesOutAll l.id (named_all l.initial.self.terms l.packed) l.initial.self new;
  same : l.self.terms ≡ l.initial.self.terms;
}
