use Rattle.std.proofs.Common.{◌∙◌, ◌≡◌, ◌≤◌, ◌⊎◌, true, max, cond, refl, ap, arith}
use Rattle.std.specs.Vec.{with_item}
use Rattle.sk_page.specs.Needs.{need_for}
use Rattle.sk_shards.specs.Forests.{ceiling_in, spent_in}
use Rattle.sk_shards.proofs.ForestLemmas.{spent-set}
use Rattle.sk_shards.proofs.PassedLemmas.{built_at, index_there, head_within, asked_at, asked_behind, asked_more, passes_by_seek, passes_by_close}
use Rattle.sk_shards.proofs.forest.Forest.pass.Goals as goal

pub index_mut-requires : goal.index_mut-requires
index_mut-requires g c =
    let built = c.requires.trees in
    let old = c.args.self.now in
    let within = head_within c.args.indexes.now old.trees.items c.args.head built.0 built.1 built.2 c.requires.first in
    omega (arith, within, old.trees.ok.0)

pub returns-then-head-eq4294967295-clause-passes :
    goal.returns-then-head-eq4294967295-clause-passes
returns-then-head-eq4294967295-clause-passes g c =
    let built = c.requires.trees in
    let indexes = c.args.indexes.now in
    let head = c.args.head in
    let old = c.args.self.now in
    let at = index_there indexes head.part c.requires.first.0 in
    passes_by_close indexes head old (record { trees = with_item old.trees head.part c.close.new.self; need = old.need; is_pruned = old.is_pruned; bounds = old.bounds; page = old.page }) built.0 built.1 at.0 c.index_mut.result.now c.close.new.self
    c.requires.turns built.2 c.requires.first at.1 c.index_mut.ensures.value refl refl refl refl refl c.if-head-eq4294967295.true c.close.ensures.left (c.close.ensures.built at.0) c.close.ensures.need (c.close.ensures.stops at.0)

pub index_mut-requires-2 : goal.index_mut-requires-2
index_mut-requires-2 g c =
    let built = c.requires.trees in
    let old = c.args.self.now in
    let within = head_within c.args.indexes.now old.trees.items c.args.head built.0 built.1 built.2 c.requires.first in
    omega (arith, within, old.trees.ok.0)

pub seek-requires-clause-tree : goal.seek-requires-clause-tree
seek-requires-clause-tree g c =
    let built = c.requires.trees in
    let old = c.args.self.now in
    (built_at c.args.indexes.now old.trees.items built.0 built.1 c.args.head.part c.index-indexes-part.result c.index_mut-2.result.now built.2 c.requires.first.0 c.index-indexes-part.is c.index_mut-2.ensures.value).tree

pub seek-requires-clause-rising : goal.seek-requires-clause-rising
seek-requires-clause-rising g c =
    let built = c.requires.trees in
    let head = c.args.head in
    let old = c.args.self.now in
    let tree = c.index_mut-2.result.now in
    let low : tree.need ≤ old.need = asked_at old.trees.items head.part old.need tree (head_within c.args.indexes.now old.trees.items head built.0 built.1 built.2 c.requires.first) c.index_mut-2.ensures.value c.requires.asked in
    let ask = need_for old.page.options old.page.seen old.page.heap c.args.ceiling in
    let need = c.need_behind-need.result in
    let more = asked_more old.is_pruned old.need need ask (asked_behind old.is_pruned old.need ask need c.need_behind-need.ensures) in
    let most : tree.need ≤ need = omega (arith, low, more) in
    most

pub returns-clause-passes : goal.returns-clause-passes
returns-clause-passes g c =
    let built = c.requires.trees in
    let indexes = c.args.indexes.now in
    let head = c.args.head in
    let old = c.args.self.now in
    let need = c.need_behind-need.result in
    let tree = c.index_mut-2.result.now in
    let is : need ≡ cond old.is_pruned (max old.need (need_for old.page.options old.page.seen old.page.heap (ceiling_in old.trees.items))) old.need =
    c.need_behind-need.ensures ∙ ap (λ ceiling. cond old.is_pruned (max old.need (need_for old.page.options old.page.seen old.page.heap ceiling)) old.need) c.requires.ceiling in
    passes_by_seek indexes head old (record { trees = with_item old.trees head.part c.seek.new.self; need = need; is_pruned = old.is_pruned; bounds = old.bounds; page = old.page }) built.0 built.1 c.index-indexes-part.result tree c.seek.new.self
    c.requires.turns built.2 c.requires.first c.index-indexes-part.is c.index_mut-2.ensures.value refl refl refl refl
    (asked_behind old.is_pruned old.need (need_for old.page.options old.page.seen old.page.heap (ceiling_in old.trees.items)) need is) c.seek.ensures.covers c.seek.ensures.built c.seek.ensures.need c.seek.ensures.accounts

pub returns-clause-cost : goal.returns-clause-cost
returns-clause-cost g c =
    let built = c.requires.trees in
    let head = c.args.head in
    let old = c.args.self.now in
    let within = head_within c.args.indexes.now old.trees.items head built.0 built.1 built.2 c.requires.first in
    let added = spent-set old.trees.items head.part c.index_mut-2.result.now c.seek.new.self within c.index_mut-2.ensures.value in
    omega (arith, added, c.seek.ensures.cost)
