-- What leaves can weigh up to an id, and what may be skipped for it.
use Rattle.std.proofs.Common.{◌≡◌, ◌≤◌, ◌<◌, ◌+◌, ◌⊎◌, ℕ, [], ◌∷◌, Option, None, Some, unwrap_or, inl, inr, sym, subst, ◌∙◌, arith}
use Rattle.std.specs.Option.{option_map}
use Rattle.std.proofs.lemmas.Bool.{cases_eq, cases_lt}
use Rattle.sk_base.specs.declared.find.Scheme.{Scheme}
use Rattle.sk_query.specs.declared.form.Form.{Form}
use Rattle.sk_sorted.proofs.EntryLaws.{found-here, found-other}
use Rattle.sk_chunks.specs.Postings.{Postings}
use Rattle.sk_lists.specs.Seeks.{AreWithin}
use Rattle.sk_model.specs.Weights.{weigh_by}
use Rattle.sk_model.specs.Combining.{both}
use Rattle.sk_model.specs.Covers.{CoversAt, Covers}
use Rattle.sk_index.specs.Indexed.{Indexed}
use Rattle.sk_decay.specs.Sides.{paired}
use Rattle.sk_nodes.specs.Leaves.{weighed}
use Rattle.sk_nodes.specs.Shapes.{Shape}
use Rattle.sk_nodes.specs.Left.{rest, from_on}
use Rattle.sk_nodes.specs.Flat.{IsAtLeast, MayGo}
use Rattle.sk_nodes.specs.Skips.{WeighsBelow, SidesSkip}
use Rattle.sk_nodes.proofs.LeafLaws.{from_on-at, from_on-below}
use Rattle.sk_nodes.proofs.ListLaws.{weigh_more}

-- an entry between the target and the last id weighs no more than the greatest
pub within_bound : (factor : ℕ) (scheme : Scheme) (target last greatest id : ℕ) (es : Postings) → AreWithin target last greatest es → target ≤ id → id ≤ last
    → unwrap_or (weighed factor scheme es id) 0 ≤ weigh_by factor scheme greatest
within_bound factor scheme target last greatest id [] within from to = omega arith
within_bound factor scheme target last greatest id (p ∷ ps) within from to =
    elim (cases_eq p.0 id) as (λ _. unwrap_or (weighed factor scheme (p ∷ ps) id) 0 ≤ weigh_by factor scheme greatest) [
      | inl same ↦ subst (λ o. unwrap_or (option_map (weigh_by factor scheme) o) 0 ≤ weigh_by factor scheme greatest) (sym (found-here id p ps same)) (here same within.0)
      | inr other ↦ subst (λ o. unwrap_or (option_map (weigh_by factor scheme) o) 0 ≤ weigh_by factor scheme greatest) (sym (found-other id p ps other)) (within_bound factor scheme target last greatest id ps within.1 from to)
    ]
  where
    here : p.0 ≡ id → (p.0 < target) ⊎ ((last < p.0) ⊎ (p.1 ≤ greatest)) → weigh_by factor scheme p.1 ≤ weigh_by factor scheme greatest
    here same (inl below) = absurd (omega (arith, same, below, from))
    here same (inr (inl behind)) = absurd (omega (arith, same, behind, to))
    here same (inr (inr light)) = weigh_more factor scheme p.1 greatest light

-- two that weigh too little weigh too little together
pub both_light : (need x y : ℕ) (a b : Option ℕ) → unwrap_or a 0 ≤ x → unwrap_or b 0 ≤ y → x + y < need → WeighsBelow need (both a b)
both_light need x y None b p q lt = tt
both_light need x y (Some v) None p q lt = tt
both_light need x y (Some v) (Some w) p q lt = omega (arith, p, q, lt)

-- a weight that is enough is not light
pub light_enough : (need : ℕ) (o : Option ℕ) → WeighsBelow need o → IsAtLeast need o → ⊥
light_enough need None light enough = enough
light_enough need (Some w) light enough = omega (arith, light, enough)

-- what is light may be passed over
light_covers : (need : ℕ) (a b : Option ℕ) → WeighsBelow need b → CoversAt a b need → CoversAt a None need
light_covers need None None light c = tt
light_covers need None (Some w) light c = absurd c
light_covers need (Some v) None light c = c
light_covers need (Some v) (Some w) light c =
    elim (cases_lt v need) as (λ _. v < need) [
      | inl lt ↦ lt
      | inr le ↦ let same = c.1 le in omega (arith, same, light)
    ]

module _ (i : Indexed) (form : Form) (from need : ℕ) (a b : Shape) (to : ℕ) (skips : SidesSkip i form from need a b to) where
  abbrev given : ℕ → Option ℕ
  given id = paired form (rest i a id) (rest i b id)

  -- what covers what is given from the one id on covers what is given from the other on
  pub skip_covers : (old : ℕ → Option ℕ) → Covers old (from_on from given) need → Covers old (from_on to given) need
  skip_covers old covers id =
      elim (cases_lt id to) as (λ _. CoversAt (old id) (from_on to given id) need) [
        | inl lt ↦ subst (λ o. CoversAt (old id) o need) (sym (from_on-below to given id lt)) (before lt)
        | inr le ↦ subst (λ o. CoversAt (old id) o need) (from_on-at from given id (omega (arith, skips.later, le)) ∙ sym (from_on-at to given id le)) (covers id)
      ]
    where
      before : id < to → CoversAt (old id) None need
      before lt =
          elim (cases_lt id from) as (λ _. CoversAt (old id) None need) [
            | inl less ↦ subst (λ o. CoversAt (old id) o need) (from_on-below from given id less) (covers id)
            | inr le ↦ light_covers need (old id) (given id) (skips.light id le lt) (subst (λ o. CoversAt (old id) o need) (from_on-at from given id le) (covers id))
          ]

  -- a point up to which the sides may go is not skipped
  pub skip_goes : (point : ℕ) → MayGo point from need (given point) → MayGo point to need (given point)
  skip_goes point (inl last) = inl last
  skip_goes point (inr (inl near)) = inr (inl (near.0, omega (arith, near.1, skips.needed near.0)))
  skip_goes point (inr (inr wanted)) =
      elim (cases_lt point to) as (λ _. MayGo point to need (given point)) [
        | inl lt ↦ absurd (light_enough need (given point) (skips.light point wanted.0 lt) wanted.1)
        | inr le ↦ inr (inr (le, wanted.1))
      ]
