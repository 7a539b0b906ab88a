use Rattle.std.proofs.Common.{◌∙◌, All, length, sym, ap, subst, arith, rules}
use Rattle.sk_base.specs.Loads.{IsLight}
use Rattle.sk_base.specs.Numbers.{Docs}
use Rattle.sk_query.specs.Trees.{query_view}
use Rattle.sk_model.specs.Bounds.{ceil}
use Rattle.sk_sharp.proofs.PartLemmas.{part_light, part_few, part_ceil_small, ceil_next}
use Rattle.sk_sharp.proofs.joined.joined_ceil.Goals as goal

pub new-requires : goal.new-requires
new-requires c =
    omega (arith, ap length c.in_ok-own.ensures, part_few c.args.parts c.parts.part c.args.docs.now.entries, c.requires.few)

pub ceil-requires-clause-light : goal.ceil-requires-clause-light
ceil-requires-clause-light c =
    subst (λ (docs : Docs). All IsLight docs) (sym (c.new.ensures ∙ c.in_ok-own.ensures))
    (part_light c.args.parts c.parts.part c.args.docs.now.entries c.requires.light)

pub parts-preserved : goal.parts-preserved
parts-preserved c =
    let own_is = c.ceil.ensures ∙ ap (ceil (query_view c.args.query.now) c.args.paging.now.options.scheme 1) (c.new.ensures ∙ c.in_ok-own.ensures) in
    let small =
    part_ceil_small (query_view c.args.query.now) c.args.paging.now.options.scheme c.args.parts c.parts.part c.args.docs.now.entries
    c.requires.sound c.requires.leaves c.requires.light in (
      ceil_next (query_view c.args.query.now) c.args.paging.now.options.scheme c.args.parts c.args.docs.now.entries
          c.parts.part c.parts.greatest c.ceil.result c.max-greatest.result c.parts-test.true own_is (search rules) c.parts.invariant.0,
      omega (arith, c.max-greatest.ensures, own_is, small, c.parts.invariant.1),
    )
