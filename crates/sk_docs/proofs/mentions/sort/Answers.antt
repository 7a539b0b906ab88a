use Rattle.std.proofs.Common.{rules}
use Rattle.std.proofs.lemmas.List.Sorted.{answers_always}
use Rattle.sk_docs.proofs.JoinLemmas.{is_less, less_order, sorted_terms, sorted_load, sorted_follow}
use Rattle.sk_docs.proofs.mentions.sort.Goals as goal

pub returns-clause-same : goal.returns-clause-same
returns-clause-same c =
    sorted_terms c.args.mentions.now.items c.sort_by.new.self.items (c.sort_by.ensures.stable is_less less_order (answers_always _ _ _ (λ f a r g h. search rules)))

pub returns-clause-load : goal.returns-clause-load
returns-clause-load c = sorted_load c.args.mentions.now.items c.sort_by.new.self.items c.sort_by.ensures.permutation

pub returns-clause-follow : goal.returns-clause-follow
returns-clause-follow c =
    sorted_follow c.args.mentions.now.items c.sort_by.new.self.items c.requires.all.rise
    (c.sort_by.ensures.stable is_less less_order (answers_always _ _ _ (λ f a r g h. search rules)))
    (c.in_ok-sort_by.ensures.sorted is_less less_order (answers_always _ _ _ (λ f a r g h. search rules)))
