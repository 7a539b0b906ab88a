use Rattle.std.proofs.Common.{◌∙◌, ◌≡◌, ◌≤◌, false, Some, sym, ap, subst, arith}
use Rattle.std.specs.List.{AllByRecursion}
use Rattle.sk_tree.specs.declared.tree.Tree.{Tree}
use Rattle.sk_page.specs.Needs.{is_settled}
use Rattle.sk_shards.specs.Forests.{AreBuilt, PassesUnseen, ceiling_in}
use Rattle.sk_shards.specs.declared.forest.Forest.{Forest}
use Rattle.sk_shards.proofs.TurnLemmas.{ceiling_light, most_there, first_there, within_trees, goes_on, head_there, weight_there, turned_fewer, fits_head, turned_seen, turned_light}
use Rattle.sk_shards.proofs.forest.Forest.turn.Goals as goal
use Rattle.sk_shards.proofs.forest.Forest.turn.Goals.{then-weight-cutoff+in_ok-see, else-weight-cutoff}

pub index-requires : goal.index-requires
index-requires g c =
    let indexes = c.args.indexes.now in
    let old = c.args.self.now in
    let on = c.requires.over in
    let scheme = on.0.options.scheme in
    let first = first_there indexes c.as_slice-2.result.now old.trees.items (Some c.in-Some.head) on.1 scheme c.as_slice-2.ensures.value c.requires.turns on.2.built c.in-Some.ensures in
    let within = within_trees indexes old on.1 scheme c.requires.turns on.2.built c.in-Some.head first in
    omega (arith, within, old.trees.ok.0)

-- it may see the document at its head
pub see-requires : goal.see-requires
see-requires g c =
    let indexes = c.args.indexes.now in
    let old = c.args.self.now in
    let on = c.requires.over in
    let scheme = on.0.options.scheme in
    let head = c.in-Some.head in
    let first = first_there indexes c.as_slice-2.result.now old.trees.items (Some head) on.1 scheme c.as_slice-2.ensures.value c.requires.turns on.2.built c.in-Some.ensures in
    fits_head indexes old on.0 on.1 c.requires.turns on.2 head c.weight-weight.result
    (head_there indexes old on.1 scheme c.requires.turns on.2.built head first)
    (weight_there indexes old on.1 scheme c.requires.turns on.2.built head first c.index.result.now c.weight-weight.result c.index.ensures c.weight-weight.ensures)
    (most_there indexes c.as_slice.result.now old.trees.items on.1 scheme c.ceiling_of-ceiling.result c.as_slice.ensures.value c.ceiling_of-ceiling.ensures.value c.ceiling_of-ceiling.ensures.bound on.2.built)
    (ceiling_light indexes old.trees.items on.1 scheme on.2.built)

pub pass-requires-clause-trees : goal.pass-requires-clause-trees
pass-requires-clause-trees g c =
    let indexes = c.args.indexes.now in
    let on = c.requires.over in (
      on.1,
      on.0.options.scheme,
      elim c.if-weight-cutoff.branch [
        | then-weight-cutoff+in_ok-see w ↦ subst (λ (f : Forest). AreBuilt indexes f.trees.items on.1 on.0.options.scheme) (sym w.self-is) on.2.built
        | else-weight-cutoff w ↦ subst (λ (f : Forest). AreBuilt indexes f.trees.items on.1 on.0.options.scheme) (sym w.self-is) on.2.built
      ],
    )

pub pass-requires-clause-light : goal.pass-requires-clause-light
pass-requires-clause-light g c =
    let old = c.args.self.now in
    let on = c.requires.over in
    let light = ceiling_light c.args.indexes.now old.trees.items on.1 on.0.options.scheme on.2.built in
    let most : c.ceiling_of-ceiling.result ≡ ceiling_in old.trees.items = c.ceiling_of-ceiling.ensures.value ∙ ap ceiling_in c.as_slice.ensures.value in
    omega (arith, light, most)

pub pass-requires-clause-asked : goal.pass-requires-clause-asked
pass-requires-clause-asked g c =
    let on = c.requires.over in
    elim c.if-weight-cutoff.branch [
      | then-weight-cutoff+in_ok-see w ↦ subst (λ (f : Forest). AllByRecursion (λ (t : Tree). t.need ≤ f.need) f.trees.items) (sym w.self-is) on.2.asked
      | else-weight-cutoff w ↦ subst (λ (f : Forest). AllByRecursion (λ (t : Tree). t.need ≤ f.need) f.trees.items) (sym w.self-is) on.2.asked
    ]

pub returns-clause-stands : goal.returns-clause-stands
returns-clause-stands g c paging query stands =
    let indexes = c.args.indexes.now in
    let old = c.args.self.now in
    let new = c.pass.new.self in
    let scheme = paging.options.scheme in
    let head = c.in-Some.head in
    let first = first_there indexes c.as_slice-2.result.now old.trees.items (Some head) query scheme c.as_slice-2.ensures.value c.requires.turns stands.built c.in-Some.ensures in
    let there = head_there indexes old query scheme c.requires.turns stands.built head first in
    let weighs = weight_there indexes old query scheme c.requires.turns stands.built head first c.index.result.now c.weight-weight.result c.index.ensures c.weight-weight.ensures in
    let most : c.ceiling_of-ceiling.result ≡ ceiling_in old.trees.items = c.ceiling_of-ceiling.ensures.value ∙ ap ceiling_in c.as_slice.ensures.value in
    let goes : is_settled old.page.options old.page.seen old.page.heap (ceiling_in old.trees.items) ≡ false = subst (λ n. is_settled old.page.options old.page.seen old.page.heap n ≡ false) most (sym c.if-is_settled.ensures) in
    elim c.if-weight-cutoff.branch [
      | then-weight-cutoff+in_ok-see w ↦
          turned_seen indexes old paging query c.requires.turns stands head c.weight-weight.result there weighs goes new w.see.new.self
          (subst (λ n. n ≤ c.weight-weight.result) c.cutoff.ensures w.if-weight-cutoff.true) w.in_ok-see.ensures.sees (subst (λ (s : Forest). PassesUnseen indexes head s new) w.self-is c.pass.ensures.passes)
      | else-weight-cutoff w ↦
          let light = w.if-weight-cutoff.false in
          turned_light indexes old paging query c.requires.turns stands head c.weight-weight.result there weighs goes new (omega (arith, light, c.cutoff.ensures))
          (subst (λ (s : Forest). PassesUnseen indexes head s new) w.self-is c.pass.ensures.passes)
    ]

pub returns-clause-done : goal.returns-clause-done
returns-clause-done g c =
    let indexes = c.args.indexes.now in
    let old = c.args.self.now in
    let on = c.requires.over in
    let scheme = on.0.options.scheme in
    let head = c.in-Some.head in
    let first = first_there indexes c.as_slice-2.result.now old.trees.items (Some head) on.1 scheme c.as_slice-2.ensures.value c.requires.turns on.2.built c.in-Some.ensures in
    let most : c.ceiling_of-ceiling.result ≡ ceiling_in old.trees.items = c.ceiling_of-ceiling.ensures.value ∙ ap ceiling_in c.as_slice.ensures.value in
    goes_on indexes old on.1 scheme c.requires.turns on.2.built head first (subst (λ n. is_settled old.page.options old.page.seen old.page.heap n ≡ false) most (sym c.if-is_settled.ensures))

pub returns-clause-fewer : goal.returns-clause-fewer
returns-clause-fewer g c more =
    let indexes = c.args.indexes.now in
    let old = c.args.self.now in
    let mid = c.if-weight-cutoff.self in
    let on = c.requires.over in
    let scheme = on.0.options.scheme in
    let head = c.in-Some.head in
    let first = first_there indexes c.as_slice-2.result.now old.trees.items (Some head) on.1 scheme c.as_slice-2.ensures.value c.requires.turns on.2.built c.in-Some.ensures in
    let same : mid.trees.items ≡ old.trees.items = elim c.if-weight-cutoff.branch [
      | then-weight-cutoff+in_ok-see w ↦ ap (λ (s : Forest). s.trees.items) w.self-is
      | else-weight-cutoff w ↦ ap (λ (s : Forest). s.trees.items) w.self-is
    ] in
    turned_fewer indexes old on.1 scheme c.requires.turns on.2.built head first mid c.pass.new.self same c.pass.ensures.passes
