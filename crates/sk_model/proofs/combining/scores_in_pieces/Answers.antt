use Rattle.sk_model.proofs.CombiningLaws.{sum_of_all-append, sum_of_any-append, greatest_score-append, number_matching-append}
use Rattle.sk_model.proofs.combining.scores_in_pieces.Goals as goal

pub returns-clause-all : goal.returns-clause-all
returns-clause-all c = sum_of_all-append

pub returns-clause-any : goal.returns-clause-any
returns-clause-any c = sum_of_any-append

pub returns-clause-greatest : goal.returns-clause-greatest
returns-clause-greatest c = greatest_score-append

pub returns-clause-number : goal.returns-clause-number
returns-clause-number c = number_matching-append
