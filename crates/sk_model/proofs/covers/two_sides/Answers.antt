use Rattle.sk_model.proofs.CoverLaws.{two_and, two_or, two_xor, two_max, two_not, two_maybe, two_filter}
use Rattle.sk_model.proofs.covers.two_sides.Goals as goal

pub returns-clause-all : goal.returns-clause-all
returns-clause-all c = two_and

pub returns-clause-any : goal.returns-clause-any
returns-clause-any c = two_or

pub returns-clause-one : goal.returns-clause-one
returns-clause-one c = two_xor

pub returns-clause-greatest : goal.returns-clause-greatest
returns-clause-greatest c = two_max

pub returns-clause-not : goal.returns-clause-not
returns-clause-not c = two_not

pub returns-clause-maybe : goal.returns-clause-maybe
returns-clause-maybe c = two_maybe

pub returns-clause-filter : goal.returns-clause-filter
returns-clause-filter c = two_filter
