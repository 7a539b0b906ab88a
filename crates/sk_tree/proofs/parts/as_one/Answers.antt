-- What filters all documents is opened without weight, and equal parts under the factor of all.
use Rattle.sk_query.specs.Trees.{query_view, queries_view}
use Rattle.sk_tree.proofs.EqualLaws.{found_as_one}
use Rattle.sk_tree.proofs.FilterLaws.{as_filter_of}
use Rattle.sk_tree.proofs.parts.as_one.Goals as goal

pub returns-in_ok-filter_of_all-in-Filter-clause-one : goal.returns-in_ok-filter_of_all-in-Filter-clause-one
returns-in_ok-filter_of_all-in-Filter-clause-one c =
    let found = c.in_ok-filter_of_all-in-Filter in
    λ are. as_filter_of c.args.factor c.args.form (queries_view c.args.parts.now) (query_view found.field-0.now) c.in-Filter.is found.ensures are

pub returns-in_default : goal.returns-in_default
returns-in_default c =
    let found = c.equal_as_one in
    record {
      one = found_as_one c.args.form c.args.factor c.args.parts.now found.result found.ensures.form found.ensures.equal found.ensures.factor;
      bounded = found.ensures.bounded;
    }
