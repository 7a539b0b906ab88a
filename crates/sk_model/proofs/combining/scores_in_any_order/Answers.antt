use Rattle.sk_model.proofs.CombiningLaws.{sum_of_all-permutation, sum_of_any-permutation, greatest_score-permutation, number_matching-permutation, combined-permutation}
use Rattle.sk_model.proofs.combining.scores_in_any_order.Goals as goal

pub returns-clause-all : goal.returns-clause-all
returns-clause-all c = sum_of_all-permutation

pub returns-clause-any : goal.returns-clause-any
returns-clause-any c = sum_of_any-permutation

pub returns-clause-greatest : goal.returns-clause-greatest
returns-clause-greatest c = greatest_score-permutation

pub returns-clause-number : goal.returns-clause-number
returns-clause-number c = number_matching-permutation

pub returns-clause-behind : goal.returns-clause-behind
returns-clause-behind c = combined-permutation
