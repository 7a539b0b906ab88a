use Rattle.std.proofs.Common.{rules}
use Rattle.std.proofs.lemmas.Fn.{answers_by}
use Rattle.sk_facets.specs.Tallied.{is_before}
use Rattle.sk_facets.proofs.FirstLemmas.{before_order}
use Rattle.sk_facets.proofs.TallyLemmas.{if_ok}
use Rattle.sk_facets.proofs.first.in_order.Goals as goal

pub returns : goal.returns
returns c =
    if_ok c.copies.result _ _
    (λ facets copied. record {
      ordered = c.sort_unstable_by.new.self;
      same = c.sort_unstable_by.ensures.permutation;
      sorted = c.sort_unstable_by.ensures.sorted is_before before_order (answers_by _ _ (λ f. Unit {0}) (λ f a r g h i. (search rules, tt)) _ tt);
      copies = copied;
    })
    c.copies.ensures
