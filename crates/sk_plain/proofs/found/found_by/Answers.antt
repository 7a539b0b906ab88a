use Rattle.std.proofs.Common.{rules, ◌≡◌, ◌≢◌, ◌∙◌, sym, subst, ap, nat_le, AllPairs}
use Rattle.std.proofs.lemmas.Fn.{filter_same}
use Rattle.std.proofs.lemmas.List.Kept.{AllPairs-filter}
use Rattle.sk_base.specs.declared.rank.Rank.{Rank}
use Rattle.sk_model.specs.Matches.{at_least}
use Rattle.sk_plain.proofs.found.found_by.Goals as goal

-- what weighs less is left out
cut : (c : goal.After-retain) → c.retain.new.self.items ≡ at_least c.args.paging.now.options.cutoff c.in_ok-ranks.ranks.items
cut c = filter_same _ (λ (x : Rank). nat_le c.args.paging.now.options.cutoff x.weight) _ (λ x b f t. search rules) _ _ c.retain.ensures.filtered

pub returns-clause-all : goal.returns-clause-all
returns-clause-all c = cut c ∙ ap (at_least c.args.paging.now.options.cutoff) c.in_ok-ranks.ensures.all

pub returns-clause-differ : goal.returns-clause-differ
returns-clause-differ c =
    subst (AllPairs (λ (x y : Rank). x.id ≢ y.id)) (sym (cut c))
    (AllPairs-filter (λ (x y : Rank). x.id ≢ y.id) (λ (x : Rank). nat_le c.args.paging.now.options.cutoff x.weight) c.in_ok-ranks.ranks.items c.in_ok-ranks.ensures.differ)
