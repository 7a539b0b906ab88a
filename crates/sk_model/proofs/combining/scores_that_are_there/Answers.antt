use Rattle.sk_model.proofs.CombiningLaws.{sum_of_any-there, greatest_score-there, number_matching-there, number_matching-counted, none_there, greatest_is_there, all_are_there, all_as_any}
use Rattle.sk_model.proofs.combining.scores_that_are_there.Goals as goal

pub returns-clause-any : goal.returns-clause-any
returns-clause-any c = sum_of_any-there

pub returns-clause-greatest : goal.returns-clause-greatest
returns-clause-greatest c = greatest_score-there

pub returns-clause-number : goal.returns-clause-number
returns-clause-number c = number_matching-there

pub returns-clause-counted : goal.returns-clause-counted
returns-clause-counted c = number_matching-counted

pub returns-clause-none_there : goal.returns-clause-none_there
returns-clause-none_there c = none_there

pub returns-clause-greatest_there : goal.returns-clause-greatest_there
returns-clause-greatest_there c = greatest_is_there

pub returns-clause-all_there : goal.returns-clause-all_there
returns-clause-all_there c = all_are_there

pub returns-clause-as_any : goal.returns-clause-as_any
returns-clause-as_any c = all_as_any
