-- One term more.
use Rattle.std.proofs.Common.{◌≡◌, ◌++◌, ◌∷◌, [], length, arith, ap, sym, ◌∙◌, subst}
use Rattle.sk_packed.specs.Packed.{NumberedTerm, AreKnown}
use Rattle.sk_terms.specs.Listed.{Puts}
use Rattle.sk_terms.proofs.ListedLemmas.{puts_on, puts_end}
use Rattle.sk_terms.specs.Named.{named_all}
use Rattle.sk_terms.proofs.NamedLemmas.{Grows-then, names_on, knows_on}
use Rattle.sk_terms.proofs.term_lists.TermLists.put_all.Goals as goal

pub terms-preserved : goal.terms-preserved
terms-preserved c =
    let x = c.one-item.result in
    let n = c.in_ok-number.number in
    let dict = c.terms.self.terms in
    let dict2 = c.put.new.self.terms in
    let term : c.as_bytes.result.now ≡ x.term = c.as_bytes.ensures.value ∙ c.as_str.ensures in
    let one : NumberedTerm = record { number = n; wdf = x.wdf; positions = x.positions } in
    let pushed : c.push.new.self ≡ c.terms.packing ++ one ∷ [] = c.in_ok-push.ensures.ok ∙ (λ i. c.terms.packing ++ record { number = n; wdf = x.wdf; positions = c.as_slice.ensures.value i } ∷ []) in
    record {
      rest = puts_on c.args.id c.terms.one-index c.args.terms.now x c.args.self.now c.terms.self c.put.new.self c.requires.rising (omega arith) c.one-item.is c.terms.invariant.rest
          (subst (λ w. Puts c.args.id w x.wdf c.terms.self c.put.new.self) term c.in_ok-number.ensures.puts);
      grows = Grows-then c.args.self.now.terms dict dict2 c.terms.invariant.grows c.in_ok-number.ensures.grows;
      named = ap (named_all dict2) pushed
          ∙ names_on dict dict2 c.args.terms.now c.terms.one-index n x c.terms.packing c.in_ok-number.ensures.grows c.terms.invariant.known c.terms.invariant.named (omega arith) c.one-item.is
          (c.in_ok-number.ensures.named.1 ∙ term);
      known = subst (AreKnown (length dict2)) (sym pushed) (knows_on dict dict2 c.terms.packing one c.in_ok-number.ensures.grows c.terms.invariant.known c.in_ok-number.ensures.named.0);
    }

pub returns-clause-puts : goal.returns-clause-puts
returns-clause-puts c = puts_end c.args.id c.terms.one-index c.args.terms.now c.args.self.now c.terms.self (omega arith) c.terms.invariant.rest
