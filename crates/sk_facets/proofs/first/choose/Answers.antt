use Rattle.std.proofs.Common.{rules}
use Rattle.std.proofs.lemmas.Fn.{answers_by}
use Rattle.sk_facets.specs.Tallied.{is_before}
use Rattle.sk_facets.proofs.FirstLemmas.{before_order}
use Rattle.sk_facets.proofs.first.choose.Goals as goal

pub returns : goal.returns
returns c = record {
  next = c.select_nth_unstable_by-front.result.1.now;
  others = c.select_nth_unstable_by-front.result.2.now;
  same = c.select_nth_unstable_by-front.ensures.permutation;
  split = c.select_nth_unstable_by-front.ensures.partitioned is_before before_order (answers_by _ _ (λ f. Unit {0}) (λ f a r g h i. (search rules, tt)) _ tt);
  many = c.select_nth_unstable_by-front.ensures.front_len;
}
