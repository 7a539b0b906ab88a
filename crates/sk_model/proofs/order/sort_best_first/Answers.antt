use Rattle.std.proofs.Common.{◌≡◌, rules, refl}
use Rattle.std.proofs.lemmas.Fn.{answers_by}
use Rattle.sk_base.specs.Before.{is_before}
use Rattle.sk_model.proofs.OrderLaws.{before_order, sorted_is}
use Rattle.sk_model.proofs.order.sort_best_first.Goals as goal

pub returns : goal.returns
returns c =
    sorted_is c.args.order.now c.args.ranks.now c.sort_unstable_by.new.self c.requires c.sort_unstable_by.ensures.permutation
    (c.sort_unstable_by.ensures.sorted (is_before c.args.order.now) (before_order c.args.order.now)
    (answers_by _ _ (λ f. f.0.now ≡ c.args.order.now) (λ f a r g h i. (search rules, search rules)) _ refl))
