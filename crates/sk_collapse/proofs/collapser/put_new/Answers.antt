use Rattle.std.proofs.Common.{option_to_list}
use Rattle.sk_heap.specs.Held.{ranks_of}
use Rattle.sk_collapse.proofs.GroupLemmas.{new_here, new_others, new_alike, new_gone}
use Rattle.sk_collapse.proofs.collapser.put_new.Goals as goal

pub returns-clause-here : goal.returns-clause-here
returns-clause-here c =
    new_here c.args.order c.args.most c.args.hit.rank c.args.key.now c.args.groups.now.entries c.insert.new.self.entries
    c.in_ok-key.key c.new-group.result c.put.new.self c.requires.none (c.in_ok-key.ensures.items_if_clones_equal (λ x y e. e)) c.new-group.ensures.alike c.new-group.ensures.none
    c.in_ok-insert.ensures.entries c.in_ok-gone.ensures.held

pub returns-clause-others : goal.returns-clause-others
returns-clause-others c =
    new_others c.args.order c.args.most c.args.hit.rank c.args.key.now c.args.groups.now.entries c.insert.new.self.entries
    c.in_ok-key.key c.new-group.result c.put.new.self c.requires.none (c.in_ok-key.ensures.items_if_clones_equal (λ x y e. e)) c.new-group.ensures.alike c.new-group.ensures.none
    c.in_ok-insert.ensures.entries

pub returns-clause-alike : goal.returns-clause-alike
returns-clause-alike c =
    new_alike c.args.order c.args.most c.args.hit.rank c.args.key.now c.args.groups.now.entries c.insert.new.self.entries
    c.in_ok-key.key c.new-group.result c.put.new.self c.requires.none (c.in_ok-key.ensures.items_if_clones_equal (λ x y e. e)) c.new-group.ensures.alike c.new-group.ensures.none
    c.in_ok-insert.ensures.entries c.put.ensures.alike c.put.ensures.few

pub returns-clause-gone : goal.returns-clause-gone
returns-clause-gone c =
    new_gone c.args.order c.args.most c.args.hit.rank c.args.key.now c.args.groups.now.entries c.insert.new.self.entries
    c.in_ok-key.key c.new-group.result c.put.new.self c.requires.none (c.in_ok-key.ensures.items_if_clones_equal (λ x y e. e)) c.new-group.ensures.alike c.new-group.ensures.none
    (ranks_of (option_to_list c.in_ok-gone.gone)) c.in_ok-gone.ensures.gone
