use Rattle.std.proofs.Common.{◌≡◌, ◌≢◌, true, false, sym, subst, ◌∙◌}
use Rattle.std.specs.List.{AllPairs}
use Rattle.std.proofs.lemmas.Slice.Eq.{bytes_eq-Decides}
use Rattle.sk_dict.specs.Terms.{term_at}
use Rattle.sk_dict.proofs.FindLemmas.{number_of-passed, number_of-other, read_term}
use Rattle.sk_dict.proofs.NumberLaws.{number_of-there}
use Rattle.sk_dict.proofs.dict.Dict.searched.Goals as goal

-- all terms stand before it
pub returns-in_err-number-clause-value : goal.returns-in_err-number-clause-value
returns-in_err-number-clause-value c = c.from_residual.ensures ∙ number_of-passed c.args.self.now c.args.term.now c.in_err-number.ensures

-- the first that does not is the term
pub returns-then-eq-clause-value : goal.returns-then-eq-clause-value
returns-then-eq-clause-value c =
    let read : c.get.result.now ≡ term_at c.args.self.now c.in_ok-number.number =
    read_term c.args.self.now c.self.inside.terms c.in_ok-number.number _ c.self.view_is c.get.ensures in
    let same : c.get.result.now ≡ c.args.term.now = (bytes_eq-Decides c.get.result.now c.args.term.now).0 (sym c.eq.ensures ∙ c.if-eq.true) in
    sym (number_of-there c.args.self.now c.args.term.now (subst (AllPairs (λ s t. s ≢ t)) c.self.view_is c.self.invariant.different) c.in_ok-number.number c.in_ok-number.ensures.there (sym read ∙ same))

-- it is another
pub returns-else-eq-clause-value : goal.returns-else-eq-clause-value
returns-else-eq-clause-value c =
    let read : c.get.result.now ≡ term_at c.args.self.now c.in_ok-number.number =
    read_term c.args.self.now c.self.inside.terms c.in_ok-number.number _ c.self.view_is c.get.ensures in
    number_of-other c.args.self.now c.args.term.now c.in_ok-number.number c.in_ok-number.ensures (λ e.
    let yes : c.eq.result ≡ true = c.eq.ensures ∙ (bytes_eq-Decides c.get.result.now c.args.term.now).1 (read ∙ e) in
    let no : c.eq.result ≡ false = c.if-eq.false in
    cc)
