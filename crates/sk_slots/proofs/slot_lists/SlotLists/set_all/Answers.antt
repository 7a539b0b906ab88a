-- One value more, and none is left.
use Rattle.std.proofs.Common.{length, ap, arith, sym, subst}
use Rattle.std.specs.Vec.Iter.{into_iter_items}
use Rattle.sk_base.specs.Documents.{AreValues}
use Rattle.sk_slots.specs.Slotted.{SetsAll, RiseFrom}
use Rattle.sk_slots.proofs.SlottedLemmas.{all_left, one_given, all_given}
use Rattle.sk_slots.proofs.ValueLemmas.{values_given, others_given}
use Rattle.sk_slots.proofs.slot_lists.SlotLists.set_all.Goals as goal

pub values-init : goal.values-init
values-init c = (
  all_left c.args.id (into_iter_items c.into_iter-one-iterator.result) c.args.self.now (subst AreValues (sym c.into_iter-one-iterator.ensures.into_iter_gives.0) c.requires.sound)
      (subst (RiseFrom 0) c.self.view_is c.self.invariant.1),
  omega (arith, c.into_iter-one-iterator.ensures.into_iter_gives.1, ap length c.into_iter-one-iterator.ensures.into_iter_gives.0),
)

pub values-preserved : goal.values-preserved
values-preserved c = (
  one_given c.args.id _ c.args.self.now _ _ _ c.values.self c.set.new.self c.values.invariant.0 c.in-Some.ensures.steps.0 c.in_ok-set.ensures.sets c.in_ok-set.ensures.rise,
  omega (arith, c.values.invariant.1, c.in-Some.ensures.steps.1, ap length c.in-Some.ensures.steps.0),
)

pub returns-clause-sets : goal.returns-clause-sets
returns-clause-sets c =
    subst (λ w. SetsAll c.args.id w c.args.self.now c.values.self) c.into_iter-one-iterator.ensures.into_iter_gives.0
    (all_given c.args.id _ c.args.self.now _ c.values.self c.values.invariant.0 (omega (arith, c.values.invariant.1, c.in-None.ensures.steps.0)))

pub returns-clause-values : goal.returns-clause-values
returns-clause-values c =
    values_given c.args.id c.args.values.items c.args.self.now c.values.self c.values.invariant.0.rise c.requires.sound
    (subst (λ w. SetsAll c.args.id w c.args.self.now c.values.self) c.into_iter-one-iterator.ensures.into_iter_gives.0
    (all_given c.args.id _ c.args.self.now _ c.values.self c.values.invariant.0 (omega (arith, c.values.invariant.1, c.in-None.ensures.steps.0))))

pub returns-clause-others : goal.returns-clause-others
returns-clause-others c =
    others_given c.args.id c.args.values.items c.args.self.now c.values.self (subst (RiseFrom 0) c.self.view_is c.self.invariant.1) c.values.invariant.0.rise
    (subst (λ w. SetsAll c.args.id w c.args.self.now c.values.self) c.into_iter-one-iterator.ensures.into_iter_gives.0
    (all_given c.args.id _ c.args.self.now _ c.values.self c.values.invariant.0 (omega (arith, c.values.invariant.1, c.in-None.ensures.steps.0))))
