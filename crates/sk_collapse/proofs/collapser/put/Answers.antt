use Rattle.std.proofs.Common.{◌≡◌, ◌+◌, sym, subst, ℕ, List, bytes_eq, false, OnOk, option_to_list}
use Rattle.std.specs.Map.{values_of}
use Rattle.sk_heap.specs.Held.{ranks_of}
use Rattle.sk_collapse.specs.Collapsed.{group_of}
use Rattle.sk_collapse.specs.Groups.{group_in, groups_of, fallen, group_with, AreAlike}
use Rattle.sk_collapse.proofs.GroupLemmas.{Entry, if_ok, if_err, found_differ, group_alike, known_here, known_others, known_alike, known_gone, known_same}
use Rattle.sk_collapse.proofs.collapser.put.Goals as goal

pub put-requires-clause-differs : goal.put-requires-clause-differs
put-requires-clause-differs c = found_differ c.args.key.now c.in-Some.group.now c.args.groups.now.entries c.args.hit.rank.id (sym c.in-Some.ensures.value) c.requires.differs

pub returns-in-Some-clause-here : goal.returns-in-Some-clause-here
returns-in-Some-clause-here c =
    if_ok c.put.result (λ gone. group_in c.put.new.self ≡ group_with c.in-Some.group.now.best.order c.in-Some.group.now.best.most c.args.hit.rank (group_in c.in-Some.group.now))
    (λ gone. group_of c.args.key.now (groups_of (c.get_mut.follows.lender c.put.new.self).entries) ≡ group_with c.args.order c.args.most c.args.hit.rank (group_of c.args.key.now (groups_of c.args.groups.now.entries)))
    (λ gone held.
    known_here c.args.order c.args.most c.args.hit.rank c.args.key.now c.args.groups.now.entries (c.get_mut.follows.lender c.put.new.self).entries
    c.in-Some.group.now c.put.new.self (sym c.in-Some.ensures.value) (group_alike c.args.order c.args.most _ c.in-Some.group.now (values_of c.args.groups.now.entries) c.in-Some.ensures.member c.requires.alike)
    (c.get_mut.follows.holds _).0 held)
    c.put.ensures.held

pub returns-in-Some-clause-others : goal.returns-in-Some-clause-others
returns-in-Some-clause-others c =
    if_ok c.put.result (λ gone. group_in c.put.new.self ≡ group_with c.in-Some.group.now.best.order c.in-Some.group.now.best.most c.args.hit.rank (group_in c.in-Some.group.now))
    (λ gone. (k : List ℕ) → bytes_eq c.args.key.now k ≡ false → group_of k (groups_of (c.get_mut.follows.lender c.put.new.self).entries) ≡ group_of k (groups_of c.args.groups.now.entries))
    (λ gone held.
    known_others c.args.order c.args.most c.args.hit.rank c.args.key.now c.args.groups.now.entries (c.get_mut.follows.lender c.put.new.self).entries
    c.in-Some.group.now c.put.new.self (sym c.in-Some.ensures.value) (group_alike c.args.order c.args.most _ c.in-Some.group.now (values_of c.args.groups.now.entries) c.in-Some.ensures.member c.requires.alike)
    (c.get_mut.follows.holds _).0)
    c.put.ensures.held

pub returns-in-Some-clause-alike : goal.returns-in-Some-clause-alike
returns-in-Some-clause-alike c =
    if_ok c.put.result (λ gone. group_in c.put.new.self ≡ group_with c.in-Some.group.now.best.order c.in-Some.group.now.best.most c.args.hit.rank (group_in c.in-Some.group.now))
    (λ gone. (seen : ℕ) → AreAlike c.args.order c.args.most seen (values_of c.args.groups.now.entries) → AreAlike c.args.order c.args.most (seen + 1) (values_of (c.get_mut.follows.lender c.put.new.self).entries))
    (λ gone held.
    known_alike c.args.order c.args.most c.args.hit.rank c.args.key.now c.args.groups.now.entries (c.get_mut.follows.lender c.put.new.self).entries
    c.in-Some.group.now c.put.new.self (sym c.in-Some.ensures.value) (group_alike c.args.order c.args.most _ c.in-Some.group.now (values_of c.args.groups.now.entries) c.in-Some.ensures.member c.requires.alike)
    (c.get_mut.follows.holds _).0 c.put.ensures.alike c.put.ensures.few c.in-Some.ensures.member)
    c.put.ensures.held

pub returns-in-Some-clause-gone : goal.returns-in-Some-clause-gone
returns-in-Some-clause-gone c =
    if_ok c.put.result (λ gone. ranks_of (option_to_list gone) ≡ fallen c.in-Some.group.now.best.order c.in-Some.group.now.best.most c.args.hit.rank (group_in c.in-Some.group.now).kept)
    (λ gone. ranks_of (option_to_list gone) ≡ fallen c.args.order c.args.most c.args.hit.rank (group_of c.args.key.now (groups_of c.args.groups.now.entries)).kept)
    (λ gone out.
    known_gone c.args.order c.args.most c.args.hit.rank c.args.key.now c.args.groups.now.entries (c.get_mut.follows.lender c.put.new.self).entries
    c.in-Some.group.now c.put.new.self (sym c.in-Some.ensures.value) (group_alike c.args.order c.args.most _ c.in-Some.group.now (values_of c.args.groups.now.entries) c.in-Some.ensures.member c.requires.alike)
    (ranks_of (option_to_list gone)) out)
    c.put.ensures.gone

pub returns-in-Some-clause-err : goal.returns-in-Some-clause-err
returns-in-Some-clause-err c =
    if_err c.put.result (λ e. c.put.new.self ≡ c.in-Some.group.now) (λ e. (c.get_mut.follows.lender c.put.new.self).entries ≡ c.args.groups.now.entries)
    (λ e same.
    known_same c.args.order c.args.most c.args.hit.rank c.args.key.now c.args.groups.now.entries (c.get_mut.follows.lender c.put.new.self).entries
    c.in-Some.group.now c.put.new.self (sym c.in-Some.ensures.value) (group_alike c.args.order c.args.most _ c.in-Some.group.now (values_of c.args.groups.now.entries) c.in-Some.ensures.member c.requires.alike)
    (c.get_mut.follows.holds _).0 same)
    c.put.ensures.err

pub returns-in-None-clause-alike : goal.returns-in-None-clause-alike
returns-in-None-clause-alike c =
    subst (λ (es : List Entry). OnOk c.put_new.result ((seen : ℕ) → AreAlike c.args.order c.args.most seen (values_of es) → AreAlike c.args.order c.args.most (seen + 1) (values_of c.put_new.new.groups.entries)))
    (λ i. (c.get_mut.follows.holds-at-none i).entries) c.put_new.ensures.alike
