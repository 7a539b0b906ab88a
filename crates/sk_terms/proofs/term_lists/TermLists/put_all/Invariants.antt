-- What the terms that are left do from here on, all terms do from the start; those that are done have their numbers.
use Rattle.std.proofs.Common.{◌≡◌, drop, take, length}
use Rattle.sk_packed.specs.Packed.{AreKnown}
use Rattle.sk_terms.specs.Listed.{Listed, PutsAll}
use Rattle.sk_terms.specs.Named.{named_all, Grows}
use Rattle.sk_terms.proofs.term_lists.TermLists.put_all.Given as goal

abbrev pub invariant-terms : goal.invariant-terms
invariant-terms l = record {
  rest : (new : Listed) → PutsAll l.id (drop l.one-index l.terms) l.self new → PutsAll l.id l.terms l.initial.self new;
  grows : Grows l.initial.self.terms l.self.terms;
  named : named_all l.self.terms l.packing ≡ take l.one-index l.terms;
  known : AreKnown (length l.self.terms) l.packing;
}
