-- What a fading list may still read, in numbers: as it is moved on beside the list that is read out.
use Rattle.std.proofs.Common.{◌≡◌, ◌≤◌, ◌<◌, ◌+◌, ◌-◌, ◌*◌, ◌^◌, ◌⊎◌, ℕ, inl, inr, refl, arith, le_refl}
use Rattle.std.proofs.lemmas.Bool.{cases_lt}
use Rattle.std.proofs.lemmas.Bool.Decides.{nat_tests}
use Rattle.sk_nodes.specs.Fading.{following_room, leading_room}

-- ---- what is left under a form

pub following_le : (point a b room : ℕ) → following_room point a b room ≤ room
following_le point a b room = grind (arith, nat_tests)

following_met : (point a b room : ℕ) → point < a → a ≤ b → following_room point a b room ≤ room - 128
following_met point a b room behind before = grind (arith, nat_tests)

following_least : (point a b room : ℕ) → a < 2 ^ 32 → b < 2 ^ 32 → room - 128 ≤ following_room point a b room
following_least point a b room one two = grind (arith, nat_tests)

following_near : (point a b room : ℕ) → a < 2 ^ 32 → b < 2 ^ 32 → a ≤ point → following_room point a b room ≡ room
following_near point a b room one two near = grind (arith, nat_tests)

following_late : (point a b room : ℕ) → a < 2 ^ 32 → b < 2 ^ 32 → b < a → following_room point a b room ≡ room
following_late point a b room one two late = grind (arith, nat_tests)

pub following_ended : (point a b room : ℕ) → 2 ^ 32 ≤ a → following_room point a b room ≡ 0
following_ended point a b room end = grind (arith, nat_tests)

pub leading_le : (point a b room : ℕ) → leading_room point a b room ≤ room + 255
leading_le point a b room = grind (arith, nat_tests)

leading_met : (point a b room : ℕ) → point < a → a ≡ b → leading_room point a b room ≤ room - 128
leading_met point a b room behind same = grind (arith, nat_tests)

pub leading_ended : (point a b room : ℕ) → 2 ^ 32 ≤ b → leading_room point a b room ≡ 0
leading_ended point a b room end = grind (arith, nat_tests)

leading_other_ended : (point a b room : ℕ) → 2 ^ 32 ≤ a → leading_room point a b room ≡ 0
leading_other_ended point a b room end = grind (arith, nat_tests)

leading_least : (point a b room : ℕ) → a < 2 ^ 32 → b < 2 ^ 32 → room - 128 ≤ leading_room point a b room
leading_least point a b room one two = grind (arith, nat_tests)

leading_near : (point a b room : ℕ) → a < 2 ^ 32 → b < 2 ^ 32 → a ≤ point → leading_room point a b room ≡ room + 255
leading_near point a b room one two near = grind (arith, nat_tests)

leading_less : (point a b room : ℕ) → a < 2 ^ 32 → b < 2 ^ 32 → a < b → leading_room point a b room ≡ room + 255
leading_less point a b room one two less = grind (arith, nat_tests)

leading_more : (point a b room : ℕ) → a < 2 ^ 32 → b < 2 ^ 32 → b < a → leading_room point a b room ≡ room + 255
leading_more point a b room one two more = grind (arith, nat_tests)

-- what an or becomes has no more
pub following_under : (point a b room : ℕ) → following_room point a b room ≤ room + 255
following_under point a b room = let le = following_le point a b room in omega (arith, le)

-- ---- the list that is read out, moved on from a target

-- Its head, what it has unread and its entries behind the point, and what was spent, before and after.
pub record OtherMoved (point from : ℕ) (h u most h2 u2 most2 before after : ℕ) : Type 0 where
  pub paid : after + u2 ≤ before + u
  pub less : most2 ≤ most
  pub passed : point < h → h < from → 1 + most2 ≤ most
  pub still : from ≤ h → h2 ≡ h
  pub reached : from ≤ h2
  pub some : point < h → h < 2 ^ 32 → 1 ≤ most
  pub some2 : point < h2 → h2 < 2 ^ 32 → 1 ≤ most2

-- The fading list: its head and its entries up to the point.
pub record FadingMoved (point from : ℕ) (k below k2 below2 before after : ℕ) : Type 0 where
  pub few : after ≤ before + 128
  pub near : from ≤ point + 1 → after + below2 ≤ before + below
  pub less : below2 ≤ below
  pub still : from ≤ k → (after ≡ before) × (k2 ≡ k)
  pub reached : from ≤ k2

-- ---- the other list leads

pub followed_paid : (point from h u most h2 u2 most2 k below k2 below2 s0 s1 s2 : ℕ) → h < 2 ^ 32 → k < 2 ^ 32 → h2 < 2 ^ 32 → OtherMoved point from h u most h2 u2 most2 s0 s1 → FadingMoved point h2 k below k2 below2 s1 s2
    → s2 + (u2 + following_room point h2 k2 (below2 + 256 * most2)) ≤ s0 + (u + following_room point h k (below + 256 * most))
followed_paid point from h u most h2 u2 most2 k below k2 below2 s0 s1 s2 open_a open_b open_2 other fading =
    elim (cases_lt point h2) as (λ _. s2 + (u2 + following_room point h2 k2 (below2 + 256 * most2)) ≤ s0 + (u + following_room point h k (below + 256 * most))) [
      | inl past ↦ behind past
      | inr near ↦
          let low = before_point near in
          let was = following_near point h k (below + 256 * most) open_a open_b low in
          let now = following_le point h2 k2 (below2 + 256 * most2) in
          let b = fading.near (omega (arith, near)) in
          omega (arith, other.paid, other.less, was, now, b)
    ]
  where
    before_point : h2 ≤ point → h ≤ point
    before_point near =
        elim (cases_lt h from) as (λ _. h ≤ point) [
          | inl lt ↦ omega (arith, lt, other.reached, near)
          | inr le ↦ let same = other.still le in omega (arith, same, near)
        ]

    behind : point < h2 → s2 + (u2 + following_room point h2 k2 (below2 + 256 * most2)) ≤ s0 + (u + following_room point h k (below + 256 * most))
    behind past =
        let now = following_met point h2 k2 (below2 + 256 * most2) past fading.reached in
        let some = other.some2 past open_2 in
        elim (cases_lt h from) as (λ _. s2 + (u2 + following_room point h2 k2 (below2 + 256 * most2)) ≤ s0 + (u + following_room point h k (below + 256 * most))) [
          | inl lt ↦
              elim (cases_lt point h) as (λ _. s2 + (u2 + following_room point h2 k2 (below2 + 256 * most2)) ≤ s0 + (u + following_room point h k (below + 256 * most))) [
                | inl over ↦
                    let was = following_least point h k (below + 256 * most) open_a open_b in
                    let gone = other.passed over lt in
                    omega (arith, now, some, was, gone, other.paid, fading.few, fading.less)
                | inr under ↦
                    let was = following_near point h k (below + 256 * most) open_a open_b under in
                    omega (arith, now, some, was, other.less, other.paid, fading.few, fading.less)
              ]
          | inr le ↦
              let same = other.still le in
              elim (cases_lt k h) as (λ _. s2 + (u2 + following_room point h2 k2 (below2 + 256 * most2)) ≤ s0 + (u + following_room point h k (below + 256 * most))) [
                | inl late ↦
                    let was = following_late point h k (below + 256 * most) open_a open_b late in
                    omega (arith, now, some, was, other.less, other.paid, fading.few, fading.less)
                | inr met ↦
                    let was = following_least point h k (below + 256 * most) open_a open_b in
                    let stays = fading.still (omega (arith, same, met)) in
                    omega (arith, now, was, stays.0, other.less, other.paid, fading.less)
              ]
        ]

-- it has ended
pub followed_gone : (point h u h2 u2 most2 k below s0 s1 most : ℕ) → 2 ^ 32 ≤ h2 → s1 + u2 ≤ s0 + u → s1 + (u2 + following_room point h2 k (below + 256 * most2)) ≤ s0 + (u + following_room point h k (below + 256 * most))
followed_gone point h u h2 u2 most2 k below s0 s1 most end paid = let none = following_ended point h2 k (below + 256 * most2) end in omega (arith, none, paid)

-- ---- the fading list leads

-- before a round: as the two stand, or the fading list stands before the other's head, and is sought from there or from behind it
abbrev pub Sought : ℕ → ℕ → ℕ → ℕ → ℕ → ℕ → Type 0
Sought point from h k room left = (left ≡ leading_room point h k room) ⊎ ((h ≤ from) × ((k < h) × (((point < h) × (left ≡ room)) ⊎ ((h ≤ point) × (left ≡ room + 255)))))

pub sought_further : (point from to h k room left : ℕ) → from ≤ to → Sought point from h k room left → Sought point to h k room left
sought_further point from to h k room left le (inl e) = inl e
sought_further point from to h k room left le (inr (at, rest)) = inr (omega (arith, at, le), rest)

-- neither has ended
abbrev pub AreOpen : ℕ → ℕ → Type 0
AreOpen h k = (h < 2 ^ 32) × (k < 2 ^ 32)

-- the other's entries behind the point are worth a seek
some_left : (point from h k below most left : ℕ) → AreOpen h k → (point < h → h < 2 ^ 32 → 1 ≤ most) → Sought point from h k (below + 256 * most) left → 128 ≤ left
some_left point from h k below most left opened some (inl e) =
    elim (cases_lt point h) as (λ _. 128 ≤ left) [
      | inl past ↦ let least = leading_least point h k (below + 256 * most) opened.0 opened.1 in let one = some past opened.0 in omega (arith, e, least, one)
      | inr near ↦ let was = leading_near point h k (below + 256 * most) opened.0 opened.1 near in omega (arith, e, was)
    ]
some_left point from h k below most left opened some (inr (is, (before, inl (past, e)))) = let one = some past opened.0 in omega (arith, e, one)
some_left point from h k below most left opened some (inr (is, (before, inr (near, e)))) = omega (arith, e)

-- the fading list has ended
pub leads_gone : (point from h u k below k2 below2 most left s0 s1 : ℕ) → AreOpen h k → (point < h → h < 2 ^ 32 → 1 ≤ most) → FadingMoved point from k below k2 below2 s0 s1 → 2 ^ 32 ≤ k2
    → Sought point from h k (below + 256 * most) left → s1 + (u + leading_room point h k2 (below2 + 256 * most)) ≤ s0 + (u + left)
leads_gone point from h u k below k2 below2 most left s0 s1 opened some fading end sought =
    let none = leading_ended point h k2 (below2 + 256 * most) end in
    let enough = some_left point from h k below most left opened some sought in
    omega (arith, none, enough, fading.few)

-- what may be read after a round, by where the two stand
pub record Leaves (point h k room value : ℕ) : Type 0 where
  pub low : h ≤ point → value ≤ room + 255
  pub high : point < h → value ≤ room
  pub met : point < h → h ≡ k → value ≤ room - 128

module _ (point from h u most h2 u2 most2 k below k2 below2 left value s0 s1 s2 : ℕ) (opened : AreOpen h k) (fading : FadingMoved point from k below k2 below2 s0 s1) (other : OtherMoved point k2 h u most h2 u2 most2 s1 s2)
    (leaves : Leaves point h2 k2 (below2 + 256 * most2) value) where
  abbrev Paid : Type 0
  Paid = s2 + (u2 + value) ≤ s0 + (u + left)

  -- the list was sought from before the point alone
  near_before : h2 ≤ point → (h ≤ point) × (from ≤ point + 1)
  near_before near =
      let start : from ≤ point + 1 = omega (arith, fading.reached, other.reached, near) in
      elim (cases_lt h k2) as (λ _. (h ≤ point) × (from ≤ point + 1)) [
        | inl lt ↦ (omega (arith, lt, other.reached, near), start)
        | inr le ↦ let same = other.still le in (omega (arith, same, near), start)
      ]

  near_paid : h2 ≤ point → (below + 256 * most) + 255 ≤ left → Paid
  near_paid near all =
      let b = fading.near (near_before near).1 in
      omega (arith, leaves.low near, b, other.paid, other.less, all)

  -- with 255 to spare
  spare_paid : point < h2 → (below + 256 * most) + 255 ≤ left → Paid
  spare_paid past all = omega (arith, leaves.high past, fading.few, fading.less, other.paid, other.less, all)

  -- an entry of the other went
  gone_paid : point < h2 → point < h → h < k2 → (below + 256 * most) - 128 ≤ left → Paid
  gone_paid past over lt all =
      let gone = other.passed over lt in
      omega (arith, leaves.high past, fading.few, fading.less, other.paid, gone, all)

  -- they met, and stand
  stood_paid : point < h2 → h ≡ k → from ≤ k → (below + 256 * most) - 128 ≤ left → Paid
  stood_paid past same le all =
      let stays = fading.still le in
      let stood = other.still (omega (arith, stays.1, same)) in
      let met = leaves.met past (omega (arith, stood, stays.1, same)) in
      omega (arith, met, stays.0, fading.less, other.paid, other.less, all)

  from_met : point < h2 → point < h → h ≡ k → (below + 256 * most) - 128 ≤ left → Paid
  from_met past over same all =
      elim (cases_lt k from) as (λ _. Paid) [
        | inl lt ↦ gone_paid past over (omega (arith, same, lt, fading.reached)) all
        | inr le ↦ stood_paid past same le all
      ]

  from_rest : left ≡ leading_room point h k (below + 256 * most) → Paid
  from_rest e =
      elim (cases_lt point h2) as (λ _. Paid) [
        | inl past ↦ behind past
        | inr near ↦ let was = leading_near point h k (below + 256 * most) opened.0 opened.1 (near_before near).0 in near_paid near (omega (arith, e, was))
      ]
    where
      apart : point < h2 → (h < k) ⊎ (k < h) → Paid
      apart past (inl less) = let was = leading_less point h k (below + 256 * most) opened.0 opened.1 less in spare_paid past (omega (arith, e, was))
      apart past (inr more) = let was = leading_more point h k (below + 256 * most) opened.0 opened.1 more in spare_paid past (omega (arith, e, was))

      by_order : point < h2 → point < h → Paid
      by_order past over =
          elim (cases_lt h k) as (λ _. Paid) [
            | inl less ↦ apart past (inl less)
            | inr le ↦
                elim (cases_lt k h) as (λ _. Paid) [
                  | inl more ↦ apart past (inr more)
                  | inr also ↦ let least = leading_least point h k (below + 256 * most) opened.0 opened.1 in from_met past over (omega (arith, le, also)) (omega (arith, e, least))
                ]
          ]

      behind : point < h2 → Paid
      behind past =
          elim (cases_lt point h) as (λ _. Paid) [
            | inl over ↦ by_order past over
            | inr under ↦ let was = leading_near point h k (below + 256 * most) opened.0 opened.1 under in spare_paid past (omega (arith, e, was))
          ]

  -- the target is the other's head or lies behind it, and the list stands before it
  from_head : h ≤ from → point < h → left ≡ below + 256 * most → Paid
  from_head is over e =
      elim (cases_lt h k2) as (λ _. Paid) [
        | inl lt ↦ let past : point < h2 = omega (arith, lt, over, other.reached) in gone_paid past over lt (omega (arith, e))
        | inr le ↦
            let stood = other.still le in
            let past : point < h2 = omega (arith, stood, over) in
            let met = leaves.met past (omega (arith, stood, le, is, fading.reached)) in
            omega (arith, met, fading.few, fading.less, other.paid, other.less, e)
      ]

  from_near : h ≤ point → left ≡ (below + 256 * most) + 255 → Paid
  from_near under e =
      elim (cases_lt point h2) as (λ _. Paid) [
        | inl past ↦ spare_paid past (omega (arith, e))
        | inr near ↦ near_paid near (omega (arith, e))
      ]

  pub leads_paid : Sought point from h k (below + 256 * most) left → Paid
  leads_paid (inl e) = from_rest e
  leads_paid (inr (is, (before, inl (over, e)))) = from_head is over e
  leads_paid (inr (is, (before, inr (under, e)))) = from_near under e

-- where the two have met, or one has ended
pub leaves_met : (point h k room : ℕ) → (h ≡ k) ⊎ (2 ^ 32 ≤ h) → Leaves point h k room (leading_room point h k room)
leaves_met point h k room is = record {
  low = λ near. leading_le point h k room;
  high = λ past. high past is;
  met = λ past same. leading_met point h k room past same;
}
  where
    high : point < h → (h ≡ k) ⊎ (2 ^ 32 ≤ h) → leading_room point h k room ≤ room
    high past (inl same) = let met = leading_met point h k room past same in omega (arith, met)
    high past (inr end) = let none = leading_other_ended point h k room end in omega (arith, none)

-- where the list stands before the other's head
pub leaves_on : (point h k room : ℕ) → k < h → (left : ℕ) × (Sought point h h k room left × Leaves point h k room left)
leaves_on point h k room before =
    elim (cases_lt point h) as (λ _. (left : ℕ) × (Sought point h h k room left × Leaves point h k room left)) [
      | inl past ↦ (room, (inr (le_refl h, (before, inl (past, refl))), record { low = λ near. absurd (omega (arith, past, near)); high = λ _. le_refl room; met = λ _ same. absurd (omega (arith, before, same)) }))
      | inr near ↦ (room + 255, (inr (le_refl h, (before, inr (near, refl))), record { low = λ _. le_refl (room + 255); high = λ past. absurd (omega (arith, past, near)); met = λ past same. absurd (omega (arith, before, same)) }))
    ]
