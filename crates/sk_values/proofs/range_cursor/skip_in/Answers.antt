use Rattle.std.proofs.Common.{◌≡◌, ◌+◌, ℕ, Bool, List, true, false, if◌then◌else◌, refl, sym, ap, subst, ◌∙◌, arith, drop}
use Rattle.sk_model.specs.Ranges.{is_within}
use Rattle.sk_values.specs.SlotValues.{value_at_place}
use Rattle.sk_values.specs.Numbers.{IsNumber}
use Rattle.sk_values.specs.RangeCursor.{in_range}
use Rattle.sk_values.specs.Behind.{is_behind, Skips}
use Rattle.sk_values.proofs.SkipLaws.{at_most_one, skips_then, skips_one}
use Rattle.sk_values.proofs.range_cursor.skip_in.Goals as goal

pub entries-preserved : goal.entries-preserved
entries-preserved g c = record {
  few = let one = at_most_one c.sift-is_in.result.0 c.from-count.result (counted c.sift-is_in.result.0 refl) in omega (arith, one, c.entries.invariant.few);
  within = omega arith;
  skips = λ last number.
      let more = skips_one c.args.edge.now.reverse last c.args.bounds.now.lo c.args.bounds.now.hi c.args.piece.now c.entries.read c.sift-is_in.result.0 (omega (arith, c.count-end.ensures.value))
      (ap (λ v. is_within c.args.bounds.now.lo c.args.bounds.now.hi v) (sym c.entry-id.ensures.value) ∙ sym c.sift-is_in.ensures.within) (behind last number) in
      skips_then c.args.edge.now.reverse last c.entries.count c.from-count.result _ _ _ (c.entries.invariant.skips last number)
      (subst (λ n. Skips c.args.edge.now.reverse last n (in_range c.args.bounds.now.lo c.args.bounds.now.hi (drop c.entries.read c.args.piece.now)) (in_range c.args.bounds.now.lo c.args.bounds.now.hi (drop (c.entries.read + 1) c.args.piece.now))) (sym (counted c.sift-is_in.result.0 refl)) more);
  cost = omega arith;
}
  where
    behind : (last : List ℕ) → IsNumber c.args.edge.now.number last → c.sift-is_in.result.0 ≡ true → is_behind c.args.edge.now.reverse last (value_at_place c.args.piece.now c.entries.read) ≡ true
    behind last number inside =
        ap (is_behind c.args.edge.now.reverse last) (sym c.entry-id.ensures.value)
        ∙ c.sift-is_in.ensures.behind inside c.if-is_wanted.false last number

    counted : (b : Bool) → c.sift-is_in.result.0 ≡ b → c.from-count.result ≡ (if b then 1 else 0)
    counted true e = rw e at c.from-count.ensures
    counted false e = rw e at c.from-count.ensures
