use Rattle.std.proofs.Common.{◌≡◌, ◌≢◌, sym, subst, ap, length, arith, ◌∙◌}
use Rattle.std.specs.List.{AllPairs}
use Rattle.std.proofs.lemmas.Slice.Eq.{bytes_eq-Decides}
use Rattle.sk_dict.specs.Terms.{term_at}
use Rattle.sk_dict.proofs.FindLemmas.{read_term}
use Rattle.sk_dict.proofs.NumberLaws.{number_of-there}
use Rattle.sk_dict.proofs.dict.Dict.guessed.Goals as goal

-- what is compared is the term with that number
pub returns-then-eq-clause-value : goal.returns-then-eq-clause-value
returns-then-eq-clause-value c =
    let read : c.get.result.now ≡ term_at c.args.self.now c.in_ok-number.number =
    read_term c.args.self.now c.self.inside.terms c.in_ok-number.number _ c.self.view_is c.get.ensures in
    let same : c.get.result.now ≡ c.args.term.now = (bytes_eq-Decides c.get.result.now c.args.term.now).0 (sym c.eq.ensures ∙ c.if-eq.true) in
    number_of-there c.args.self.now c.args.term.now (subst (AllPairs (λ s t. s ≢ t)) c.self.view_is c.self.invariant.different) c.in_ok-number.number (omega (arith, c.if-number-len.true, c.len.ensures, ap length c.self.view_is)) (sym read ∙ same)
