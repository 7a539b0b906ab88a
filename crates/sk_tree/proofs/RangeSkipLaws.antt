-- A tree of a range alone that passes over matches.
use Rattle.std.proofs.Common.{◌≡◌, ◌^◌, ◌⊎◌, ℕ, Bool, true, false, Option, None, Some, IfSome, List, [], ◌∷◌, ◌++◌, length, inl, inr, refl, sym, ap, ◌∙◌, subst, arith}
use Rattle.std.specs.List.{AllByRecursion}
use Rattle.std.proofs.lemmas.Bool.{cases_lt}
use Rattle.std.proofs.lemmas.List.{length-map, map-append}
use Rattle.sk_base.specs.declared.rank.SortKey.{SortKey}
use Rattle.sk_model.specs.Edits.{document_at}
use Rattle.sk_values.specs.SlotValues.{SlotValues}
use Rattle.sk_values.specs.RangeCursor as Cursors
use Rattle.sk_values.specs.Behind.{is_behind}
use Rattle.sk_index.specs.Indexed.{Indexed, slot_values, slot_value}
use Rattle.sk_nodes.specs.declared.top.Top.{Top}
use Rattle.sk_nodes.specs.declared.range_node.RangeNode.{RangeNode}
use Rattle.sk_nodes.specs.RangeNode.{unweighed, IsRangeOn}
use Rattle.sk_nodes.specs.RangeSkips.{NodeSkips}
use Rattle.sk_nodes.specs.Shapes.{Shape, range, shape_of}
use Rattle.sk_nodes.specs.Left.{rest}
use Rattle.sk_nodes.specs.Sound.{IsTop, Sound}
use Rattle.sk_nodes.specs.Flat.{IsFlat, IsPlain}
use Rattle.sk_nodes.specs.Led.{IsLed}
use Rattle.sk_nodes.specs.Fading.{IsFading}
use Rattle.sk_nodes.proofs.RangeSkipLaws.{range_listed, left_values}
use Rattle.sk_tree.specs.declared.tree.Tree.{Tree}
use Rattle.sk_tree.specs.Built.{weighed_ids, left, IsTree}
use Rattle.sk_tree.specs.Skips.{IsBehind, Skips}

all_parts : {X : Type 0} (P : X → Type 0) (xs ys : List X) → AllByRecursion P (xs ++ ys) → AllByRecursion P xs
all_parts P [] ys h = tt
all_parts P (x ∷ xs) ys h = (h.0, all_parts P xs ys h.1)

-- a range weighs nothing
weightless_top : (i : Indexed) (t : Top) (r : RangeNode) → IsTop i t (range r) → t.greatest ≡ 0
weightless_top i t r top = elim (cases_lt t.head (2 ^ 32)) as (λ _. t.greatest ≡ 0) [
  | inl lt ↦ let most = top.summed lt in omega (arith, most)
  | inr le ↦ let within = top.head.within in top.closed (omega (arith, le, within))
]

-- nothing fades in it
no_fade : (i : Indexed) (r : RangeNode) (greatest : ℕ) (first : Bool) → IsFading i greatest first (range r) → ⊥
no_fade i r greatest true fading = fading
no_fade i r greatest false fading = fading

module _ (i : Indexed) (key : SortKey) (last : List ℕ) (count : ℕ) (old new : Tree) (tree : IsTree i old) (skips : NodeSkips i key last count (shape_of old.node) (shape_of new.node) new.top) where
  sound : IsRangeOn i skips.was
  sound = subst (λ (s : Shape). Sound i s) skips.old_is tree.sound

  abbrev values : SlotValues
  values = Cursors.left skips.was.cursor (slot_values skips.was.slot i.live.documents)

  abbrev after : SlotValues
  after = Cursors.left skips.is.cursor (slot_values skips.was.slot i.live.documents)

  old_left : left i old ≡ unweighed values
  old_left = ap (λ (s : Shape). weighed_ids (λ one. rest i s one.0) i.live.documents) skips.old_is ∙ range_listed i skips.was sound tree.documents

  new_left : left i new ≡ unweighed after
  new_left =
      ap (λ (s : Shape). weighed_ids (λ one. rest i s one.0) i.live.documents) skips.new_is ∙ range_listed i skips.is skips.skips.on tree.documents
      ∙ ap (λ slot. unweighed (Cursors.left skips.is.cursor (slot_values slot i.live.documents))) skips.skips.same

  abbrev passed : SlotValues
  passed = skips.skips.skips.skips.passed

  abbrev first : ℕ × List ℕ
  first = skips.skips.skips.first

  split : values ≡ first ∷ (passed ++ after)
  split = skips.skips.skips.is ∙ ap (λ (es : SlotValues). skips.skips.skips.first ∷ es) skips.skips.skips.skips.is

  whole : left i old ≡ (first.0, 0) ∷ (unweighed passed ++ left i new)
  whole =
      old_left ∙ ap unweighed split
      ∙ ap (λ (ps : List (ℕ × ℕ)). (first.0, 0) ∷ ps) (map-append (λ (e : ℕ × List ℕ). (e.0, 0)) passed after ∙ ap (λ (ps : List (ℕ × ℕ)). unweighed passed ++ ps) (sym new_left))

  there : AllByRecursion (λ (e : ℕ × List ℕ). slot_value skips.was.slot (document_at e.0 i.live.documents) ≡ e.1) passed
  there =
      all_parts (λ (e : ℕ × List ℕ). slot_value skips.was.slot (document_at e.0 i.live.documents) ≡ e.1) passed after
      (subst (AllByRecursion (λ (e : ℕ × List ℕ). slot_value skips.was.slot (document_at e.0 i.live.documents) ≡ e.1)) split own).1
    where
      own : AllByRecursion (λ (e : ℕ × List ℕ). slot_value skips.was.slot (document_at e.0 i.live.documents) ≡ e.1) values
      own = left_values i skips.was tree.documents

  all_behind : (es : SlotValues) → AllByRecursion (λ (e : ℕ × List ℕ). slot_value skips.was.slot (document_at e.0 i.live.documents) ≡ e.1) es → AllByRecursion (λ (e : ℕ × List ℕ). is_behind key.reverse last e.1 ≡ true) es
      → AllByRecursion (IsBehind i key last) (unweighed es)
  all_behind [] h g = tt
  all_behind (e ∷ es) h g = (
    record {
      light = refl;
      behind = ap (λ slot. is_behind key.reverse last (slot_value slot (document_at e.0 i.live.documents))) (sym skips.skips.slot) ∙ ap (is_behind key.reverse last) h.0 ∙ g.0;
    },
    all_behind es h.1 g.1,
  )

  behind : AllByRecursion (λ (e : ℕ × List ℕ). is_behind key.reverse last e.1 ≡ true) passed
  behind = skips.skips.skips.skips.behind

  counted : count ≡ length passed
  counted = skips.skips.skips.skips.counted

  no_range : (P : Shape → Type 0) → (P (range skips.was) → ⊥) → P (shape_of old.node) → ⊥
  no_range P none h = none (subst P skips.old_is h)

  no_stop : IsFlat old.need (shape_of old.node) ⊎ IsPlain (shape_of old.node) → ⊥
  no_stop (inl flat) = no_range (IsFlat old.need) (λ f. f) flat
  no_stop (inr plain) = no_range IsPlain (λ p. p) plain

  pub tree_skips : Skips i key last count old new
  tree_skips = record {
    first = (first.0, 0);
    passed = unweighed passed;
    is = whole;
    counted = counted ∙ sym (length-map passed (λ (e : ℕ × List ℕ). (e.0, 0)));
    behind = all_behind passed there behind;
    weightless = weightless_top i old.top skips.was (subst (λ (s : Shape). IsTop i old.top s) skips.old_is tree.top);
    no_stops = λ point most stops. no_stop stops.shape;
    not_rare = λ most rare. no_range (IsLed i) (λ led. led) rare.led;
    no_decays = λ point greatest most decays. no_range (IsFading i greatest decays.first) (no_fade i skips.was greatest decays.first) decays.fading;
  }

pub tree_skips_if : (i : Indexed) (key : SortKey) (last : List ℕ) (o : Option ℕ) (old new : Tree) → IsTree i old → IfSome o (λ count. NodeSkips i key last count (shape_of old.node) (shape_of new.node) new.top) → IfSome o (λ count. Skips i key last count old new)
tree_skips_if i key last None old new tree h = h
tree_skips_if i key last (Some count) old new tree h = tree_skips i key last count old new tree h
