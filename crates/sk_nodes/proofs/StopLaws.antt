-- What a node of terms alone reads up to a point, and one entry behind it.
use Rattle.std.proofs.Common.{◌≡◌, ◌≤◌, ◌<◌, ◌+◌, ◌-◌, ◌^◌, ◌&&◌, ◌||◌, ◌==◌, ℕ, nat_lt, Bool, true, false, Option, None, Some, unwrap_or, if◌then◌else◌, inl, inr, refl, sym, subst, ap, ◌∙◌, arith, le_refl}
use Rattle.std.proofs.lemmas.Bool.{cases_lt, ltb-true}
use Rattle.sk_query.specs.declared.form.Form.{Form}
use Rattle.sk_model.specs.Covers.{CoversAt, Covers, first_need, second_need}
use Rattle.sk_index.specs.Indexed.{Indexed}
use Rattle.sk_decay.specs.declared.change.Change.{Change}
use Rattle.sk_decay.specs.declared.meeting.Meeting.{Meeting}
use Rattle.sk_decay.specs.Changes.{change_of, LeadsByNeed}
use Rattle.sk_decay.specs.Heads.{GoesOnOnly}
use Rattle.sk_decay.specs.Sides.{paired, is_led, second_target}
use Rattle.sk_nodes.specs.declared.top.Top.{Top}
use Rattle.sk_nodes.specs.Leaves.{AtMost}
use Rattle.sk_nodes.specs.Shapes.{Shape, ended, leaf, pair, or_many, synonym}
use Rattle.sk_nodes.specs.Left.{rest, from_on}
use Rattle.sk_nodes.specs.Sound.{IsTop}
use Rattle.sk_nodes.specs.Decayed.{changed_pair, decayed}
use Rattle.sk_nodes.proofs.LeafLaws.{from_on-at}
use Rattle.sk_nodes.specs.Flat.{room_to, rooms_to, IsFlatForm, IsFlat, IsPlain, IsAtLeast, MayGo}
use Rattle.sk_nodes.specs.Accounts.{Keeps}
use Rattle.sk_nodes.specs.Moved.{flat_to, plain_to, account_of, Accounts}
use Rattle.sk_nodes.proofs.AccountLaws.{keeps_other}

-- ---- at one id

-- where a node may be moved on from lies no further than behind the point
pub may_target : (point target need : ℕ) (w : Option ℕ) → target < 2 ^ 32 → MayGo point target need w → target ≤ point + 1
may_target point target need w lt (inl last) = omega (arith, lt, last)
may_target point target need w lt (inr (inl h)) = h.1
may_target point target need w lt (inr (inr h)) = omega (arith, h.0)

-- what is wanted stays
pub still_goes : (point target need : ℕ) (a b : Option ℕ) → CoversAt a b need → MayGo point target need a → MayGo point target need b
still_goes point target need a b covers (inl last) = inl last
still_goes point target need a b covers (inr (inl h)) = inr (inl h)
still_goes point target need None b covers (inr (inr h)) = absurd h.1
still_goes point target need (Some v) None covers (inr (inr h)) = absurd (omega (arith, covers, h.1))
still_goes point target need (Some v) (Some w) covers (inr (inr h)) = inr (inr (h.0, omega (arith, covers.1 h.1, h.1)))

-- where two sides may be moved on, the first may with its need
or_first : (a b : Option ℕ) (gb point from need : ℕ) → unwrap_or b 0 ≤ gb → from ≤ point → IsAtLeast need (paired Form.Or a b) → MayGo point from (need - gb) a
or_first None None gb point from need bound le h = absurd h
or_first None (Some v) gb point from need bound le h = inr (inl (omega (arith, bound, h), omega (arith, le)))
or_first (Some u) None gb point from need bound le h = inr (inr (le, omega (arith, h)))
or_first (Some u) (Some v) gb point from need bound le h = inr (inr (le, omega (arith, bound, h)))

and_first : (a b : Option ℕ) (gb point from need : ℕ) → unwrap_or b 0 ≤ gb → from ≤ point → IsAtLeast need (paired Form.And a b) → MayGo point from (need - gb) a
and_first None b gb point from need bound le h = absurd h
and_first (Some u) None gb point from need bound le h = absurd h
and_first (Some u) (Some v) gb point from need bound le h = inr (inr (le, omega (arith, bound, h)))

maybe_first : (a b : Option ℕ) (gb point from need : ℕ) → unwrap_or b 0 ≤ gb → from ≤ point → IsAtLeast need (paired Form.AndMaybe a b) → MayGo point from (need - gb) a
maybe_first None b gb point from need bound le h = absurd h
maybe_first (Some u) None gb point from need bound le h = inr (inr (le, omega (arith, bound, h)))
maybe_first (Some u) (Some v) gb point from need bound le h = inr (inr (le, omega (arith, bound, h)))

pub first_goes : (form : Form) (a b : Option ℕ) (gb point from need : ℕ) → IsFlatForm form need → unwrap_or b 0 ≤ gb → MayGo point from need (paired form a b) → MayGo point from (first_need form need gb) a
first_goes form a b gb point from need flat bound (inl last) = inl last
first_goes Form.Or a b gb point from need flat bound (inr (inl h)) = inr (inl (omega (arith, h.0), h.1))
first_goes Form.Or a b gb point from need flat bound (inr (inr h)) = or_first a b gb point from need bound h.0 h.1
first_goes Form.And a b gb point from need flat bound (inr (inl h)) = absurd (omega (arith, flat, h.0))
first_goes Form.And a b gb point from need flat bound (inr (inr h)) = and_first a b gb point from need bound h.0 h.1
first_goes Form.AndMaybe a b gb point from need flat bound (inr (inl h)) = absurd (omega (arith, flat, h.0))
first_goes Form.AndMaybe a b gb point from need flat bound (inr (inr h)) = maybe_first a b gb point from need bound h.0 h.1
first_goes Form.Xor a b gb point from need flat bound (inr h) = absurd flat
first_goes Form.Max a b gb point from need flat bound (inr h) = absurd flat
first_goes Form.AndNot a b gb point from need flat bound (inr h) = absurd flat
first_goes Form.Filter a b gb point from need flat bound (inr h) = absurd flat

-- a weight that is at least the need is left as it was
same_left : (u need : ℕ) (o : Option ℕ) → CoversAt (Some u) o need → need ≤ u → o ≡ Some u
same_left u need None covers le = absurd (omega (arith, covers, le))
same_left u need (Some w) covers le = ap Some (covers.1 le)

left_bound : (u g : ℕ) (o : Option ℕ) → o ≡ Some u → unwrap_or o 0 ≤ g → u ≤ g
left_bound u g None e h = cc
left_bound u g (Some w) e h = let same : w ≡ u = cc in omega (arith, same, h)

-- the second side of an or, once the first has moved: where that gives nothing at the point, or what it gives is not enough
or_second : (a b a2 : Option ℕ) (gb ga2 point from need : ℕ) → unwrap_or b 0 ≤ gb → unwrap_or a2 0 ≤ ga2 → CoversAt a a2 (need - gb) → from ≤ point
    → IsAtLeast need (paired Form.Or a b) → MayGo point from (need - ga2) b
or_second None None a2 gb ga2 point from need bound after covers le h = absurd h
or_second None (Some v) a2 gb ga2 point from need bound after covers le h = inr (inr (le, omega (arith, h)))
or_second (Some u) None a2 gb ga2 point from need bound after covers le h =
    let kept = left_bound u ga2 a2 (same_left u (need - gb) a2 covers (omega (arith, h))) after in
    inr (inl (omega (arith, kept, h), omega (arith, le)))
or_second (Some u) (Some v) a2 gb ga2 point from need bound after covers le h =
    let kept = left_bound u ga2 a2 (same_left u (need - gb) a2 covers (omega (arith, h, bound))) after in
    inr (inr (le, omega (arith, kept, h)))

-- the second side of a form that is led: the first one's head lies no further than the point
module _ (point head need gb ga2 : ℕ) (a2 : Option ℕ) (behind : point < head → a2 ≡ None) (after : unwrap_or a2 0 ≤ ga2) where
  reached : (u : ℕ) → a2 ≡ Some u → head ≤ point
  reached u e =
      elim (cases_lt point head) as (λ _. head ≤ point) [
        | inl lt ↦ absurd (there (behind lt))
        | inr le ↦ le
      ]
    where
      there : a2 ≡ None → ⊥
      there f = cc

  and_second : (a b : Option ℕ) → unwrap_or b 0 ≤ gb → CoversAt a a2 (need - gb) → IsAtLeast need (paired Form.And a b) → MayGo point head (need - ga2) b
  and_second None b bound covers h = absurd h
  and_second (Some u) None bound covers h = absurd h
  and_second (Some u) (Some v) bound covers h =
      let same = same_left u (need - gb) a2 covers (omega (arith, h, bound)) in
      let kept = left_bound u ga2 a2 same after in
      inr (inr (reached u same, omega (arith, kept, h)))

  maybe_second : (a b : Option ℕ) → unwrap_or b 0 ≤ gb → CoversAt a a2 (need - gb) → IsAtLeast need (paired Form.AndMaybe a b) → MayGo point head (need - ga2) b
  maybe_second None b bound covers h = absurd h
  maybe_second (Some u) None bound covers h =
      let same = same_left u (need - gb) a2 covers (omega (arith, h)) in
      let kept = left_bound u ga2 a2 same after in
      let near = reached u same in
      inr (inl (omega (arith, kept, h), omega (arith, near)))
  maybe_second (Some u) (Some v) bound covers h =
      let same = same_left u (need - gb) a2 covers (omega (arith, h, bound)) in
      let kept = left_bound u ga2 a2 same after in
      inr (inr (reached u same, omega (arith, kept, h)))

-- where two sides may be moved on, the second may with its need, once the first has moved
pub second_goes : (form : Form) (a b a2 : Option ℕ) (gb ga2 point from head need : ℕ) → IsFlatForm form need → unwrap_or b 0 ≤ gb → unwrap_or a2 0 ≤ ga2
    → (from ≤ point → CoversAt a a2 (first_need form need gb)) → (point < head → a2 ≡ None)
    → MayGo point from need (paired form a b) → MayGo point (second_target form from head) (second_need form need ga2) b
second_goes form a b a2 gb ga2 point from head need flat bound after covers behind (inl last) = inl last
second_goes Form.Or a b a2 gb ga2 point from head need flat bound after covers behind (inr (inl h)) = inr (inl (omega (arith, h.0), h.1))
second_goes Form.Or a b a2 gb ga2 point from head need flat bound after covers behind (inr (inr h)) = or_second a b a2 gb ga2 point from need bound after (covers h.0) h.0 h.1
second_goes Form.And a b a2 gb ga2 point from head need flat bound after covers behind (inr (inl h)) = absurd (omega (arith, flat, h.0))
second_goes Form.And a b a2 gb ga2 point from head need flat bound after covers behind (inr (inr h)) = and_second point head need gb ga2 a2 behind after a b bound (covers h.0) h.1
second_goes Form.AndMaybe a b a2 gb ga2 point from head need flat bound after covers behind (inr (inl h)) = absurd (omega (arith, flat, h.0))
second_goes Form.AndMaybe a b a2 gb ga2 point from head need flat bound after covers behind (inr (inr h)) = maybe_second point head need gb ga2 a2 behind after a b bound (covers h.0) h.1
second_goes Form.Xor a b a2 gb ga2 point from head need flat bound after covers behind (inr h) = absurd flat
second_goes Form.Max a b a2 gb ga2 point from head need flat bound after covers behind (inr h) = absurd flat
second_goes Form.AndNot a b a2 gb ga2 point from head need flat bound after covers behind (inr h) = absurd flat
second_goes Form.Filter a b a2 gb ga2 point from head need flat bound after covers behind (inr h) = absurd flat

-- where sides go on to a further id, that does not pass the point
pub goes_on : (form : Form) (v w : Option ℕ) (point from further need : ℕ) → IsFlatForm form need → (form ≡ Form.Or → ⊥) → (from ≤ point → CoversAt v w need) → (point < further → w ≡ None)
    → MayGo point from need v → MayGo point further need w
goes_on form v w point from further need flat other covers below (inl last) = inl last
goes_on form v w point from further need flat other covers below (inr (inl h)) = absurd (wanted form need flat other h.0)
  where
    wanted : (form : Form) (need : ℕ) → IsFlatForm form need → (form ≡ Form.Or → ⊥) → need ≡ 0 → ⊥
    wanted Form.Or need flat other e = other refl
    wanted Form.And need flat other e = omega (arith, flat, e)
    wanted Form.AndMaybe need flat other e = omega (arith, flat, e)
    wanted Form.Xor need flat other e = flat
    wanted Form.Max need flat other e = flat
    wanted Form.AndNot need flat other e = flat
    wanted Form.Filter need flat other e = flat
goes_on form v w point from further need flat other covers below (inr (inr h)) = by v w (covers h.0) below h.1
  where
    by : (v w : Option ℕ) → CoversAt v w need → (point < further → w ≡ None) → IsAtLeast need v → MayGo point further need w
    by None w covers below h = absurd h
    by (Some u) None covers below h = absurd (omega (arith, covers, h))
    by (Some u) (Some x) covers below h = inr (inr (near, omega (arith, covers.1 h, h)))
      where
        there : ◌≡◌ {A = Option ℕ} (Some x) None → ⊥
        there e = cc

        near : further ≤ point
        near =
            elim (cases_lt point further) as (λ _. further ≤ point) [
              | inl lt ↦ absurd (there (below lt))
              | inr le ↦ le
            ]

-- ---- shapes under a need that rises

form_mono : (form : Form) (m n : ℕ) → m ≤ n → IsFlatForm form m → IsFlatForm form n
form_mono Form.Or m n le flat = tt
form_mono Form.And m n le flat = omega (arith, le, flat)
form_mono Form.AndMaybe m n le flat = omega (arith, le, flat)
form_mono Form.Xor m n le flat = flat
form_mono Form.Max m n le flat = flat
form_mono Form.AndNot m n le flat = flat
form_mono Form.Filter m n le flat = flat

-- the needs of sides rise with the need, and with what the other side falls
pub first_need-mono : (form : Form) (m n g h : ℕ) → m ≤ n → h ≤ g → first_need form m g ≤ first_need form n h
first_need-mono Form.Or m n g h le less = omega (arith, le, less)
first_need-mono Form.And m n g h le less = omega (arith, le, less)
first_need-mono Form.AndMaybe m n g h le less = omega (arith, le, less)
first_need-mono Form.Xor m n g h le less = omega arith
first_need-mono Form.Max m n g h le less = le
first_need-mono Form.AndNot m n g h le less = le
first_need-mono Form.Filter m n g h le less = le

pub second_need-mono : (form : Form) (m n g h : ℕ) → m ≤ n → h ≤ g → second_need form m g ≤ second_need form n h
second_need-mono Form.Or m n g h le less = omega (arith, le, less)
second_need-mono Form.And m n g h le less = omega (arith, le, less)
second_need-mono Form.AndMaybe m n g h le less = omega (arith, le, less)
second_need-mono Form.Xor m n g h le less = omega arith
second_need-mono Form.Max m n g h le less = le
second_need-mono Form.AndNot m n g h le less = omega arith
second_need-mono Form.Filter m n g h le less = omega arith

pub flat-mono : (s : Shape) (m n : ℕ) → m ≤ n → IsFlat m s → IsFlat n s
flat-mono ended m n le flat = tt
flat-mono (leaf l) m n le flat = tt
flat-mono (pair form ta a tb b) m n le flat = (
  form_mono form m n le flat.0,
  (
    flat-mono a (first_need form m tb.greatest) (first_need form n tb.greatest) (first_need-mono form m n tb.greatest tb.greatest le (le_refl tb.greatest)) flat.1.0,
    flat-mono b (second_need form m ta.greatest) (second_need form n ta.greatest) (second_need-mono form m n ta.greatest ta.greatest le (le_refl ta.greatest)) flat.1.1,
  ),
)
flat-mono (synonym scheme factor t s) m n le flat = λ wdf enough. flat wdf (omega (arith, le, enough))
flat-mono _ m n le flat = flat

-- ---- what is put in a node's place

changed_flat : (change : Change) (form : Form) (ta : Top) (a : Shape) (tb : Top) (b : Shape) (need : ℕ) → LeadsByNeed change form need → IsFlat need (pair form ta a tb b) → IsFlat need (changed_pair change form ta a tb b)
changed_flat Change.Keep form ta a tb b need leads flat = flat
changed_flat Change.Nothing form ta a tb b need leads flat = tt
changed_flat Change.First form ta a tb b need leads flat = flat-mono a (first_need form need tb.greatest) need (by form) flat.1.0
  where
    by : (form : Form) → first_need form need tb.greatest ≤ need
    by Form.Or = omega arith
    by Form.And = omega arith
    by Form.AndMaybe = omega arith
    by Form.Xor = omega arith
    by Form.Max = le_refl need
    by Form.AndNot = le_refl need
    by Form.Filter = le_refl need
changed_flat Change.Second form ta a tb b need leads flat = flat-mono b (second_need form need ta.greatest) need (by form) flat.1.1
  where
    by : (form : Form) → second_need form need ta.greatest ≤ need
    by Form.Or = omega arith
    by Form.And = omega arith
    by Form.AndMaybe = omega arith
    by Form.Xor = omega arith
    by Form.Max = le_refl need
    by Form.AndNot = omega arith
    by Form.Filter = omega arith
changed_flat Change.Maybe form ta a tb b need leads flat = by form leads flat.1
  where
    by : (form : Form) → LeadsByNeed Change.Maybe form need → IsFlat (first_need form need tb.greatest) a × IsFlat (second_need form need ta.greatest) b → IsFlat need (pair Form.AndMaybe ta a tb b)
    by Form.Or leads flat = (leads, flat)
    by _ leads flat = absurd leads
changed_flat Change.MaybeSwap form ta a tb b need leads flat = by form leads flat.1
  where
    by : (form : Form) → LeadsByNeed Change.MaybeSwap form need → IsFlat (first_need form need tb.greatest) a × IsFlat (second_need form need ta.greatest) b → IsFlat need (pair Form.AndMaybe tb b ta a)
    by Form.Or leads flat = (leads, (flat.1, flat.0))
    by _ leads flat = absurd leads
changed_flat Change.Both form ta a tb b need leads flat = by form leads flat.1
  where
    by : (form : Form) → LeadsByNeed Change.Both form need → IsFlat (first_need form need tb.greatest) a × IsFlat (second_need form need ta.greatest) b → IsFlat need (pair Form.And ta a tb b)
    by Form.Or leads flat = (leads, flat)
    by Form.AndMaybe leads flat = (leads, flat)
    by _ leads flat = absurd leads
changed_flat Change.Not form ta a tb b need leads flat = by form leads flat.0
  where
    by : (form : Form) → LeadsByNeed Change.Not form need → IsFlatForm form need → IsFlat need (pair Form.AndNot ta a tb b)
    by Form.Xor leads flat = absurd flat
    by _ leads flat = absurd leads
changed_flat Change.NotSwap form ta a tb b need leads flat = by form leads flat.0
  where
    by : (form : Form) → LeadsByNeed Change.NotSwap form need → IsFlatForm form need → IsFlat need (pair Form.AndNot tb b ta a)
    by Form.Xor leads flat = absurd flat
    by _ leads flat = absurd leads

-- a max takes one side, or stays
changed_plain : (change : Change) (form : Form) (ta : Top) (a : Shape) (tb : Top) (b : Shape) (need : ℕ) → LeadsByNeed change form need → IsPlain (pair form ta a tb b) → IsPlain (changed_pair change form ta a tb b)
changed_plain change form ta a tb b need leads plain = by form change leads plain
  where
    by : (form : Form) (change : Change) → LeadsByNeed change form need → IsPlain (pair form ta a tb b) → IsPlain (changed_pair change form ta a tb b)
    by Form.Max Change.Keep leads plain = plain
    by Form.Max Change.Nothing leads plain = tt
    by Form.Max Change.First leads plain = plain.0
    by Form.Max Change.Second leads plain = plain.1
    by Form.Max Change.Maybe leads plain = absurd leads
    by Form.Max Change.MaybeSwap leads plain = absurd leads
    by Form.Max Change.Both leads plain = absurd leads
    by Form.Max Change.Not leads plain = absurd leads
    by Form.Max Change.NotSwap leads plain = absurd leads
    by _ change leads plain = absurd plain

-- no more is left than before
changed_room : (i : Indexed) (point : ℕ) (change : Change) (form : Form) (ta : Top) (a : Shape) (tb : Top) (b : Shape) → room_to i point (changed_pair change form ta a tb b) ≤ room_to i point (pair form ta a tb b)
changed_room i point Change.Keep form ta a tb b = omega arith
changed_room i point Change.Nothing form ta a tb b = omega arith
changed_room i point Change.First form ta a tb b = omega arith
changed_room i point Change.Second form ta a tb b = omega arith
changed_room i point Change.Maybe form ta a tb b = omega arith
changed_room i point Change.MaybeSwap form ta a tb b = omega arith
changed_room i point Change.Both form ta a tb b = omega arith
changed_room i point Change.Not form ta a tb b = omega arith
changed_room i point Change.NotSwap form ta a tb b = omega arith

pub if_so : (P : Change → Type 0) (test : Bool) (x y : Change) → (test ≡ true → P x) → (test ≡ false → P y) → P (if test then x else y)
if_so P true x y h g = h refl
if_so P false x y h g = g refl

needed : (test : Bool) (a need : ℕ) → (nat_lt a need && test) ≡ true → 0 < need
needed test a need e = let lt = ltb-true a need (front (nat_lt a need) test e) in omega (arith, lt)
  where
    front : (x y : Bool) → (x && y) ≡ true → x ≡ true
    front true y e = refl
    front false y e = cc

needed_by : (a need : ℕ) → nat_lt a need ≡ true → 0 < need
needed_by a need e = let lt = ltb-true a need e in omega (arith, lt)

-- the tables lead by need
pub decayed_leads : (form : Form) (a b : ℕ) (a_ended b_ended : Bool) (need : ℕ) → LeadsByNeed (change_of form a b a_ended b_ended need) form need
decayed_leads Form.Or a b a_ended b_ended need =
    let P : Change → Type 0 = λ c. LeadsByNeed c Form.Or need in
    if_so P (a_ended && b_ended) _ _ (λ e. tt) (λ e. if_so P a_ended _ _ (λ e. refl) (λ e. if_so P b_ended _ _ (λ e. tt) (λ e.
    if_so P (nat_lt (a + b) need) _ _ (λ e. tt) (λ e. if_so P (nat_lt a need && nat_lt b need) _ _ (λ e. needed (nat_lt b need) a need e) (λ e.
    if_so P (nat_lt b need) _ _ (λ e. needed_by b need e) (λ e. if_so P (nat_lt a need) _ _ (λ e. needed_by a need e) (λ e. tt)))))))
decayed_leads Form.AndMaybe a b a_ended b_ended need =
    let P : Change → Type 0 = λ c. LeadsByNeed c Form.AndMaybe need in
    if_so P a_ended _ _ (λ e. tt) (λ e. if_so P (nat_lt (a + b) need) _ _ (λ e. tt) (λ e. if_so P b_ended _ _ (λ e. tt) (λ e. if_so P (nat_lt a need) _ _ (λ e. needed_by a need e) (λ e. tt))))
decayed_leads Form.And a b a_ended b_ended need =
    let P : Change → Type 0 = λ c. LeadsByNeed c Form.And need in
    if_so P (a_ended || b_ended) _ _ (λ e. tt) (λ e. if_so P (nat_lt (a + b) need) _ _ (λ e. tt) (λ e. tt))
decayed_leads Form.Filter a b a_ended b_ended need =
    let P : Change → Type 0 = λ c. LeadsByNeed c Form.Filter need in
    if_so P (a_ended || b_ended) _ _ (λ e. tt) (λ e. if_so P (nat_lt a need) _ _ (λ e. tt) (λ e. tt))
decayed_leads Form.AndNot a b a_ended b_ended need =
    let P : Change → Type 0 = λ c. LeadsByNeed c Form.AndNot need in
    if_so P a_ended _ _ (λ e. tt) (λ e. if_so P (nat_lt a need) _ _ (λ e. tt) (λ e. if_so P b_ended _ _ (λ e. tt) (λ e. tt)))
decayed_leads Form.Xor a b a_ended b_ended need =
    let P : Change → Type 0 = λ c. LeadsByNeed c Form.Xor need in
    if_so P (a_ended && b_ended) _ _ (λ e. tt) (λ e. if_so P a_ended _ _ (λ e. refl) (λ e. if_so P b_ended _ _ (λ e. tt) (λ e.
    if_so P (nat_lt a need && nat_lt b need) _ _ (λ e. tt) (λ e. if_so P (nat_lt b need) _ _ (λ e. tt) (λ e. if_so P (nat_lt a need) _ _ (λ e. tt) (λ e. tt))))))
decayed_leads Form.Max a b a_ended b_ended need =
    let P : Change → Type 0 = λ c. LeadsByNeed c Form.Max need in
    if_so P (a_ended && b_ended) _ _ (λ e. tt) (λ e. if_so P a_ended _ _ (λ e. refl) (λ e. if_so P b_ended _ _ (λ e. tt) (λ e.
    if_so P (nat_lt a need && nat_lt b need) _ _ (λ e. tt) (λ e. if_so P (nat_lt a need) _ _ (λ e. refl) (λ e. if_so P (nat_lt b need) _ _ (λ e. tt) (λ e. tt))))))

-- what stands for a node
pub decayed_flat : (s : Shape) (need : ℕ) → IsFlat need s → IsFlat need (decayed need s)
decayed_flat ended need flat = tt
decayed_flat (leaf l) need flat = tt
decayed_flat (pair form ta a tb b) need flat = changed_flat (change_of form ta.greatest tb.greatest (ta.head == 2 ^ 32) (tb.head == 2 ^ 32) need) form ta a tb b need (decayed_leads form ta.greatest tb.greatest (ta.head == 2 ^ 32) (tb.head == 2 ^ 32) need) flat
decayed_flat _ need flat = flat

pub decayed_plain : (s : Shape) (need : ℕ) → IsPlain s → IsPlain (decayed need s)
decayed_plain ended need plain = tt
decayed_plain (leaf l) need plain = tt
decayed_plain (pair form ta a tb b) need plain = changed_plain (change_of form ta.greatest tb.greatest (ta.head == 2 ^ 32) (tb.head == 2 ^ 32) need) form ta a tb b need (decayed_leads form ta.greatest tb.greatest (ta.head == 2 ^ 32) (tb.head == 2 ^ 32) need) plain
decayed_plain _ need plain = plain

pub decayed_room : (i : Indexed) (point : ℕ) (s : Shape) (need : ℕ) → room_to i point (decayed need s) ≤ room_to i point s
decayed_room i point (leaf l) need = le_refl (room_to i point (leaf l))
decayed_room i point (pair form ta a tb b) need = changed_room i point (change_of form ta.greatest tb.greatest (ta.head == 2 ^ 32) (tb.head == 2 ^ 32) need) form ta a tb b
decayed_room i point (or_many ss) need = le_refl (rooms_to i point ss)
decayed_room i point (synonym scheme factor t s) need = le_refl (room_to i point s)
decayed_room i point _ need = omega arith

-- ---- two sides

-- the sides of a max
pub plain_sides : (form : Form) (ta : Top) (a : Shape) (tb : Top) (b : Shape) → IsPlain (pair form ta a tb b) → (form ≡ Form.Max) × (IsPlain a × IsPlain b)
plain_sides Form.Max ta a tb b plain = (refl, plain)
plain_sides _ ta a tb b plain = absurd plain

plain_pair : (form : Form) (ta : Top) (a : Shape) (tb : Top) (b : Shape) → form ≡ Form.Max → IsPlain a → IsPlain b → IsPlain (pair form ta a tb b)
plain_pair form ta a tb b is first second = subst (λ (f : Form). IsPlain (pair f ta a tb b)) (sym is) (first, second)

-- both sides are moved on, from where they have come
module _ (i : Indexed) (form : Form) (from need before between after : ℕ) (ta : Top) (a : Shape) (tb : Top) (b : Shape) (ua : Top) (c : Shape) (ub : Top) (d : Shape)
    (bound : AtMost tb.greatest (rest i b)) (moved : IsTop i ua c) (first_falls : ua.greatest ≤ ta.greatest)
    (covers : Covers (from_on from (rest i a)) (rest i c) (first_need form need tb.greatest))
    (one : Accounts i from (first_need form need tb.greatest) before between a c) where
  goes_first : (point : ℕ) → IsFlat need (pair form ta a tb b) → MayGo point from need (paired form (rest i a point) (rest i b point)) → MayGo point from (first_need form need tb.greatest) (rest i a point)
  goes_first point flat may = first_goes form (rest i a point) (rest i b point) tb.greatest point from need flat.0 (bound point) may

  paid_first : (point : ℕ) → IsFlat need (pair form ta a tb b) → MayGo point from need (paired form (rest i a point) (rest i b point)) → between + room_to i point c ≤ before + room_to i point a
  paid_first point flat may = (one.keeps (flat_to point)).paid flat.1.0 (goes_first point flat may)

  flat_first : IsFlat need (pair form ta a tb b) → IsFlat need (pair form ua c tb b)
  flat_first flat = (
    flat.0,
    (
      (one.keeps (flat_to 0)).kind flat.1.0,
      flat-mono b (second_need form need ta.greatest) (second_need form need ua.greatest) (second_need-mono form need need ta.greatest ua.greatest (le_refl need) first_falls) flat.1.1,
    ),
  )

  -- the first alone, where the form is led and it has ended
  pub flat_ended : (point : ℕ) → Keeps (account_of i need (flat_to point)) from before between (pair form ta a tb b) (pair form ua c tb b)
  flat_ended point = record {
    kind = λ flat. flat_first flat;
    paid = λ flat may. let paid = paid_first point flat may in omega (arith, paid);
  }

  pub plain_ended : (point : ℕ) → is_led form ≡ true → Keeps (account_of i need (plain_to point)) from before between (pair form ta a tb b) (pair form ua c tb b)
  plain_ended point led = keeps_other (account_of i need (plain_to point)) from before between (pair form ta a tb b) (pair form ua c tb b) (λ h. other (plain_sides form ta a tb b h).0)
    where
      led_max : is_led Form.Max ≡ true → ⊥
      led_max e = cc

      other : form ≡ Form.Max → ⊥
      other is = led_max (ap is_led (sym is) ∙ led)

  module _ (next : ℕ) (is : next ≡ second_target form from ua.head) (second_falls : ub.greatest ≤ tb.greatest)
      (two : Accounts i next (second_need form need ua.greatest) between after b d) where
    goes_second : (point : ℕ) → IsFlat need (pair form ta a tb b) → MayGo point from need (paired form (rest i a point) (rest i b point)) → MayGo point next (second_need form need ua.greatest) (rest i b point)
    goes_second point flat may =
        subst (λ n. MayGo point n (second_need form need ua.greatest) (rest i b point)) (sym is)
        (second_goes form (rest i a point) (rest i b point) (rest i c point) tb.greatest ua.greatest point from ua.head need flat.0 (bound point) (moved.bound point)
        (λ le. subst (λ o. CoversAt o (rest i c point) (first_need form need tb.greatest)) (from_on-at from (rest i a) point le) (covers point)) (λ lt. moved.head.below point lt) may)

    flat_both : IsFlat need (pair form ta a tb b) → IsFlat need (pair form ua c ub d)
    flat_both flat = (
      flat.0,
      (
        flat-mono c (first_need form need tb.greatest) (first_need form need ub.greatest) (first_need-mono form need need tb.greatest ub.greatest (le_refl need) second_falls) (flat_first flat).1.0,
        (two.keeps (flat_to 0)).kind (flat_first flat).1.1,
      ),
    )

    pub flat_round : (point : ℕ) → Keeps (account_of i need (flat_to point)) from before after (pair form ta a tb b) (pair form ua c ub d)
    flat_round point = record {
      kind = λ flat. flat_both flat;
      paid = λ flat may.
          let first = paid_first point flat may in
          let second : after + room_to i point d ≤ between + room_to i point b = (two.keeps (flat_to point)).paid (flat_first flat).1.1 (goes_second point flat may) in
          omega (arith, first, second);
    }

    pub plain_round : (point : ℕ) → Keeps (account_of i need (plain_to point)) from before after (pair form ta a tb b) (pair form ua c ub d)
    plain_round point = record {
      kind = λ h. let sides = plain_sides form ta a tb b h in plain_pair form ua c ub d sides.0 ((one.keeps (plain_to point)).kind sides.1.0) ((two.keeps (plain_to point)).kind sides.1.1);
      paid = λ h le.
          let sides = plain_sides form ta a tb b h in
          let level : next ≡ from = is ∙ ap (λ f. second_target f from ua.head) sides.0 in
          let first : between + room_to i point c ≤ before + room_to i point a = (one.keeps (plain_to point)).paid sides.1.0 le in
          let second : after + room_to i point d ≤ between + room_to i point b = (two.keeps (plain_to point)).paid sides.1.1 (omega (arith, level, le)) in
          omega (arith, first, second);
    }

-- an or and a max do not go on
pub no_or : (form : Form) (next : ℕ) → GoesOnOnly form (Meeting.Behind next) → form ≡ Form.Or → ⊥
no_or form next on is = subst (λ (f : Form). GoesOnOnly f (Meeting.Behind next)) is on

pub no_max : (form : Form) (next : ℕ) → GoesOnOnly form (Meeting.Behind next) → form ≡ Form.Max → ⊥
no_max form next on is = subst (λ (f : Form). GoesOnOnly f (Meeting.Behind next)) is on
