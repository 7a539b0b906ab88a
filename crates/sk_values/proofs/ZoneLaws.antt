-- What zones tell of values, and what a range that meets none of them passes over.
use Rattle.std.proofs.Common.{◌≡◌, ℕ, zero, suc, ◌+◌, ◌-◌, ◌<◌, ◌≤◌, ◌^◌, ◌++◌, ◌&&◌, nat_le, Bool, true, false, List, [], ◌∷◌, length, take, drop, get_or, set, is_some, Option, inl, inr, refl, sym, ap, subst, ◌∙◌, arith, true≢false}
use Rattle.std.proofs.lemmas.Bool.{cases_eq}
use Rattle.std.proofs.lemmas.Bool.Decides.{nat_tests}
use Rattle.std.proofs.lemmas.List.{length-set, get_or-set_same, length-take, length-drop, get_or-take, get_or-drop}
use Rattle.sk_sorted.specs.Entries.{RiseAbove, LieBelow, AreSorted, put, without, has, top_id}
use Rattle.sk_sorted.specs.Places.{id_at}
use Rattle.sk_sorted.proofs.EntryLaws.{RiseAbove-lower, RiseAbove-drop, LieBelow-drop, found-other, AllByRecursion-put, AllByRecursion-without}
use Rattle.sk_sorted.specs.Runs.{flat}
use Rattle.sk_sorted.proofs.RunLaws.{below-top}
use Rattle.sk_model.specs.Ranges.{is_within}
use Rattle.sk_values.specs.Numbers.{IsNumber, IsBetween, IsLeast, IsGreatest}
use Rattle.sk_values.specs.SlotValues.{SlotValues, SlotRuns, value_at_place}
use Rattle.sk_values.specs.RangeCursor.{in_range}
use Rattle.sk_values.specs.declared.zones.Zone.{Zone}
use Rattle.sk_values.specs.declared.span.Span.{Span}
use Rattle.sk_values.specs.Behind.{greatest_in}
use Rattle.sk_values.specs.Zones.{zone_of, zone_at, meets, lies_in, TellsOf, IsWider, AreWider, IsToldAt, AreZoned, IsPart, AreAmong}
use Rattle.sk_values.proofs.NumberLaws.{both_decide}
use Rattle.sk_values.proofs.RangeLaws.{in_range-not}
use Rattle.sk_values.proofs.ValueLaws.{drop-entry, entry_read}

-- ---- one value

pub tells_number : (n : ℕ) (v : List ℕ) (z : Zone) → IsNumber n v → z.least ≤ n → n ≤ z.greatest → TellsOf v z
tells_number n v z is from to = inl (record { number = n; is = is; from = from; to = to })

tells_wider : (v : List ℕ) (old new : Zone) → IsWider old new → TellsOf v old → TellsOf v new
tells_wider v old new wider tells = elim tells [
  | inl is ↦ inl (record { number = is.number; is = is.is; from = omega (arith, is.from, wider.from); to = omega (arith, is.to, wider.to) })
  | inr all ↦ inr (record { from = omega (arith, all.from, wider.from); to = omega (arith, all.to, wider.to) })
]

-- a range that has a value meets each zone that tells of it
told_meets : (v : List ℕ) (z : Zone) (lo hi : Option (List ℕ)) (least greatest : ℕ) → least < 2 ^ 64 → IsLeast lo least → IsGreatest hi greatest → TellsOf v z → is_within lo hi v ≡ true → meets z least greatest ≡ true
told_meets v z lo hi least greatest small low high tells inside = elim tells [
  | inl is ↦
      let both : (nat_le least is.number && nat_le is.number greatest) ≡ true = both_decide lo hi least greatest is.number v low high is.is ∙ inside in
      grind (arith, nat_tests, both, is.from, is.to)
  | inr all ↦ grind (arith, nat_tests, small, all.from, all.to)
]

-- a value of which a zone in a span tells is a number of the span, where that has not all numbers
told_among : (v : List ℕ) (z : Zone) (s : Span) → s.width < 2 ^ 64 - 1 → TellsOf v z → lies_in s z ≡ true → IsBetween s.least (greatest_in s) v
told_among v z s few tells inside =
    let from : s.least ≤ z.least = grind (arith, nat_tests, inside) in
    let to : z.greatest ≤ greatest_in s = grind (arith, nat_tests, inside) in
    elim tells [
      | inl is ↦ record { number = is.number; is = is.is; from = omega (arith, from, is.from); to = omega (arith, to, is.to) }
      | inr all ↦ absurd (omega (arith, from, to, all.from, all.to, few))
    ]

told_wider : (old new : List Zone) (id : ℕ) (v : List ℕ) → AreWider old new → IsToldAt old id v → IsToldAt new id v
told_wider old new id v are told = record {
  there = omega (arith, told.there, are.there);
  tells = tells_wider v (zone_at old (zone_of id)) (zone_at new (zone_of id)) (are.wider (zone_of id) told.there) told.tells;
}

-- ---- all values

pub zoned_wider : (old new : List Zone) (es : SlotValues) → AreWider old new → AreZoned old es → AreZoned new es
zoned_wider old new [] are told = tt
zoned_wider old new (e ∷ es) are told = (told_wider old new e.0 e.1 are told.0, zoned_wider old new es are told.1)

module _ (zones : List Zone) where
  abbrev Told : ℕ × List ℕ → Type 0
  Told e = IsToldAt zones e.0 e.1

  pub AreZoned-put : (id : ℕ) (value : List ℕ) (es : SlotValues) → IsToldAt zones id value → AreZoned zones es → AreZoned zones (put id value es)
  AreZoned-put id value es told are = AllByRecursion-put Told id value es told are

  pub AreZoned-without : (id : ℕ) (es : SlotValues) → AreZoned zones es → AreZoned zones (without id es)
  AreZoned-without id es are = AllByRecursion-without Told id es are

  zoned_front : (xs ys : SlotValues) → AreZoned zones (xs ++ ys) → AreZoned zones xs
  zoned_front [] ys are = tt
  zoned_front (x ∷ xs) ys are = (are.0, zoned_front xs ys are.1)

  zoned_back : (xs ys : SlotValues) → AreZoned zones (xs ++ ys) → AreZoned zones ys
  zoned_back [] ys are = are
  zoned_back (x ∷ xs) ys are = zoned_back xs ys are.1

  -- those of one piece
  pub zoned_piece : (runs : SlotRuns) (i : ℕ) → AreZoned zones (flat runs) → AreZoned zones (get_or runs i [])
  zoned_piece [] i are = tt
  zoned_piece (r ∷ rs) zero are = zoned_front r (flat rs) are
  zoned_piece (r ∷ rs) (suc i) are = zoned_piece rs i (zoned_back r (flat rs) are)

  zoned_drop : (n : ℕ) (es : SlotValues) → AreZoned zones es → AreZoned zones (drop n es)
  zoned_drop zero es are = are
  zoned_drop (suc n) [] are = tt
  zoned_drop (suc n) (e ∷ es) are = zoned_drop n es are.1

  -- the zone of the last one is there
  zone_of_top : (low : ℕ) (es : SlotValues) → zone_of low < length zones → AreZoned zones es → zone_of (top_id low es) < length zones
  zone_of_top low [] there are = there
  zone_of_top low (e ∷ es) there are = zone_of_top e.0 es are.0.there are.1

  pub last_there : (es : SlotValues) → 0 < length es → AreZoned zones es → zone_of (top_id 0 es) < length zones
  last_there [] some are = absurd (omega (arith, some))
  last_there (e ∷ es) some are = zone_of_top e.0 es are.0.there are.1

  -- as is that of each id that has a value
  pub zone_there : (id : ℕ) (es : SlotValues) → has id es ≡ true → AreZoned zones es → zone_of id < length zones
  zone_there id [] there are = absurd (true≢false (sym there))
  zone_there id (e ∷ es) there are = elim (cases_eq e.0 id) [
    | inl same ↦ subst (λ k. zone_of k < length zones) same are.0.there
    | inr apart ↦ zone_there id es (ap is_some (sym (found-other id e es apart)) ∙ there) are.1
  ]

  -- a zone that tells of the value is put in the place of the id's
  pub told_set : (id : ℕ) (v : List ℕ) (z : Zone) → zone_of id < length zones → TellsOf v z → IsToldAt (set zones (zone_of id) z) id v
  told_set id v z there tells = record {
    there = omega (arith, there, length-set zones (zone_of id) z);
    tells = subst (TellsOf v) (sym (get_or-set_same zones (zone_of id) z (record { least = 0; greatest = 0 }) there)) tells;
  }

-- ---- what a range passes over

zones_rise : (a b : ℕ) → a ≤ b → zone_of a ≤ zone_of b
zones_rise a b le = omega (arith, le)

-- numbers from the least to the greatest are in none of the zones from the first id's to the last one's
abbrev AllMiss : List Zone → ℕ → ℕ → ℕ → ℕ → Type 0
AllMiss zones first last least greatest = (k : ℕ) → zone_of first ≤ k → k ≤ zone_of last → meets (zone_at zones k) least greatest ≡ false

module _ (lo hi : Option (List ℕ)) (least greatest : ℕ) (small : least < 2 ^ 64) (low : IsLeast lo least) (high : IsGreatest hi greatest) (zones : List Zone) where
  outside : (id : ℕ) (v : List ℕ) → IsToldAt zones id v → meets (zone_at zones (zone_of id)) least greatest ≡ false → is_within lo hi v ≡ false
  outside id v told miss = by (is_within lo hi v) refl
    where
      by : (b : Bool) → is_within lo hi v ≡ b → is_within lo hi v ≡ false
      by true e = absurd (true≢false (sym (told_meets v (zone_at zones (zone_of id)) lo hi least greatest small low high told.tells e) ∙ miss))
      by false e = e

  none_in : (first last : ℕ) (es : SlotValues) → RiseAbove (first - 1) es → LieBelow (last + 1) es → AreZoned zones es → AllMiss zones first last least greatest → in_range lo hi es ≡ []
  none_in first last [] up below are miss = refl
  none_in first last (e ∷ es) up below are miss =
      in_range-not lo hi e es (outside e.0 e.1 are.0 (miss (zone_of e.0) (zones_rise first e.0 (omega (arith, up.0))) (zones_rise e.0 last (omega (arith, below.0)))))
      ∙ none_in first last es (RiseAbove-lower (first - 1) e.0 es (omega (arith, up.0)) up.1) below.1 are.1 miss

-- these zones lie in a span
abbrev AllLieIn : List Zone → ℕ → ℕ → Span → Type 0
AllLieIn zones first last s = (k : ℕ) → zone_of first ≤ k → k ≤ zone_of last → lies_in s (zone_at zones k) ≡ true

module _ (s : Span) (few : s.width < 2 ^ 64 - 1) (zones : List Zone) where
  all_among : (first last : ℕ) (es : SlotValues) → RiseAbove (first - 1) es → LieBelow (last + 1) es → AreZoned zones es → AllLieIn zones first last s → AreAmong s es
  all_among first last [] up below are inside = tt
  all_among first last (e ∷ es) up below are inside = (
    told_among e.1 (zone_at zones (zone_of e.0)) s few are.0.tells (inside (zone_of e.0) (zones_rise first e.0 (omega (arith, up.0))) (zones_rise e.0 last (omega (arith, below.0)))),
    all_among first last es (RiseAbove-lower (first - 1) e.0 es (omega (arith, up.0)) up.1) below.1 are.1 inside,
  )

module _ (es : SlotValues) (place : ℕ) (sound : AreSorted es) (less : place < length es) where
  -- what is read at the place has its id
  pub first_read : (copy : SlotValues) (e : ℕ × List ℕ) → copy ≡ es → e ≡ get_or copy place e → e.0 ≡ id_at es place
  first_read copy e same is = (entry_read es copy place e same less is).id

  behind : RiseAbove 0 ((id_at es place, value_at_place es place) ∷ drop (place + 1) es)
  behind = subst (RiseAbove 0) (drop-entry es place less) (RiseAbove-drop 0 place es sound.rise)

  from_first : RiseAbove (id_at es place - 1) (drop place es)
  from_first = subst (RiseAbove (id_at es place - 1)) (sym (drop-entry es place less)) (omega (arith, behind.0), behind.1)

  to_last : LieBelow (top_id 0 es + 1) (drop place es)
  to_last = LieBelow-drop (top_id 0 es + 1) place es (below-top 0 (top_id 0 es + 1) es sound.rise (omega arith))

  -- the zones from the first one's to the last one's
  pub first_to_last : zone_of (id_at es place) ≤ zone_of (top_id 0 es)
  first_to_last =
      let both : LieBelow (top_id 0 es + 1) ((id_at es place, value_at_place es place) ∷ drop (place + 1) es) = subst (LieBelow (top_id 0 es + 1)) (drop-entry es place less) to_last in
      zones_rise (id_at es place) (top_id 0 es) (omega (arith, both.0))

  -- where these zones meet none of the numbers of a range, none of the values lies in it
  pub none_behind : (lo hi : Option (List ℕ)) (least greatest : ℕ) → least < 2 ^ 64 → IsLeast lo least → IsGreatest hi greatest → (zones : List Zone) → AreZoned zones es
      → AllMiss zones (id_at es place) (top_id 0 es) least greatest → in_range lo hi (drop place es) ≡ []
  none_behind lo hi least greatest small low high zones are miss =
      none_in lo hi least greatest small low high zones (id_at es place) (top_id 0 es) (drop place es) from_first to_last (zoned_drop zones place es are) miss

  -- where they lie in a span, all values do
  pub among_behind : (s : Span) → s.width < 2 ^ 64 - 1 → (zones : List Zone) → AreZoned zones es → AllLieIn zones (id_at es place) (top_id 0 es) s → AreAmong s (drop place es)
  among_behind s few zones are inside = all_among s few zones (id_at es place) (top_id 0 es) (drop place es) from_first to_last (zoned_drop zones place es are) inside

-- a slice of the zones has those from its first one on
pub slice_part : (zones : List Zone) (from to : ℕ) → from ≤ to → to < length zones → IsPart zones (take (to + 1 - from) (drop from zones)) from to
slice_part zones from to order there k onward within =
    let d : Zone = record { least = 0; greatest = 0 } in (
      omega (arith, length-take (to + 1 - from) (drop from zones), length-drop from zones, order, there, onward, within),
      get_or-take (to + 1 - from) (drop from zones) (k - from) d (omega (arith, onward, within)) ∙ get_or-drop from zones (k - from) d ∙ ap (zone_at zones) (omega (arith, onward)),
    )

-- what holds of all of a part holds of those from the one place to the other
module _ (zones part : List Zone) (from to : ℕ) (has : IsPart zones part from to) where
  pub part_misses : (least greatest : ℕ) → ((k : ℕ) → k < length part → meets (zone_at part k) least greatest ≡ false) → (k : ℕ) → from ≤ k → k ≤ to → meets (zone_at zones k) least greatest ≡ false
  part_misses least greatest miss k onward within = let is = has k onward within in ap (λ (z : Zone). meets z least greatest) (sym is.1) ∙ miss (k - from) is.0

  pub part_lies_in : (s : Span) → ((k : ℕ) → k < length part → lies_in s (zone_at part k) ≡ true) → (k : ℕ) → from ≤ k → k ≤ to → lies_in s (zone_at zones k) ≡ true
  part_lies_in s inside k onward within = let is = has k onward within in ap (lies_in s) (sym is.1) ∙ inside (k - from) is.0
