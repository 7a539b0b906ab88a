use Rattle.std.proofs.Common.{rules}
use Rattle.std.proofs.lemmas.Fn.{answers_by}
use Rattle.sk_model.specs.Counting.{is_first}
use Rattle.sk_model.proofs.FacetLaws.{first_order, sorted_counted}
use Rattle.sk_model.proofs.facets.sort_facets.Goals as goal

pub returns-clause-counted : goal.returns-clause-counted
returns-clause-counted c values tallied =
    sorted_counted values c.args.facets.now c.sort_unstable_by.new.self c.sort_unstable_by.ensures.permutation
    (c.sort_unstable_by.ensures.sorted is_first first_order (answers_by _ _ (λ f. Unit {0}) (λ f a r g h i. (search rules, tt)) _ tt)) tallied
