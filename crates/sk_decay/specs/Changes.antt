-- What may stand for two sides under a need, and when: seven tables, a row a line, of which the first that stands decides.
-- Source: Xapian's guide to the matcher (what an OR becomes as the weight that is wanted rises). Own: the rows of xor, max, filter and not.
use Rattle.std.specs.Prelude.{◌≡◌, ◌<◌, ◌≤◌, ℕ, ◌+◌, Bool, ◌&&◌, ◌||◌, false, nat_lt, Option, None, if◌then◌else◌}
use Rattle.sk_query.specs.declared.form.Form.{Form}
use Rattle.sk_decay.specs.declared.change.Change.{Change}
use Rattle.sk_model.specs.Covers.{CoversAt}
use Rattle.sk_decay.specs.Sides.{paired, greatest_under, is_led, IsSide}

-- The weight under what stands for a form, by those of its two sides.
abbrev pub changed : Change → Form → Option ℕ → Option ℕ → Option ℕ
changed Change.Keep form a b = paired form a b
changed Change.Nothing form a b = None
changed Change.First form a b = a
changed Change.Second form a b = b
changed Change.Maybe form a b = paired Form.AndMaybe a b
changed Change.MaybeSwap form a b = paired Form.AndMaybe b a
changed Change.Both form a b = paired Form.And a b
changed Change.Not form a b = paired Form.AndNot a b
changed Change.NotSwap form a b = paired Form.AndNot b a

-- No weight is above it under what stands for a form.
abbrev pub changed_greatest : Change → Form → ℕ → ℕ → ℕ
changed_greatest Change.Keep form a b = greatest_under form a b
changed_greatest Change.Nothing form a b = 0
changed_greatest Change.First form a b = a
changed_greatest Change.Second form a b = b
changed_greatest Change.Maybe form a b = greatest_under Form.AndMaybe a b
changed_greatest Change.MaybeSwap form a b = greatest_under Form.AndMaybe b a
changed_greatest Change.Both form a b = greatest_under Form.And a b
changed_greatest Change.Not form a b = greatest_under Form.AndNot a b
changed_greatest Change.NotSwap form a b = greatest_under Form.AndNot b a

abbrev pub or_change : ℕ → ℕ → Bool → Bool → ℕ → Change
or_change a b a_ended b_ended need =
    if a_ended && b_ended then Change.Nothing
    else (if a_ended then Change.Second
    else (if b_ended then Change.First
    else (if nat_lt (a + b) need then Change.Nothing
    else (if nat_lt a need && nat_lt b need then Change.Both
    else (if nat_lt b need then Change.Maybe
    else (if nat_lt a need then Change.MaybeSwap
    else Change.Keep))))))

abbrev pub maybe_change : ℕ → ℕ → Bool → Bool → ℕ → Change
maybe_change a b a_ended b_ended need =
    if a_ended then Change.Nothing
    else (if nat_lt (a + b) need then Change.Nothing
    else (if b_ended then Change.First
    else (if nat_lt a need then Change.Both
    else Change.Keep)))

abbrev pub both_change : ℕ → ℕ → Bool → Bool → ℕ → Change
both_change a b a_ended b_ended need =
    if a_ended || b_ended then Change.Nothing
    else (if nat_lt (a + b) need then Change.Nothing
    else Change.Keep)

abbrev pub filter_change : ℕ → ℕ → Bool → Bool → ℕ → Change
filter_change a b a_ended b_ended need =
    if a_ended || b_ended then Change.Nothing
    else (if nat_lt a need then Change.Nothing
    else Change.Keep)

abbrev pub not_change : ℕ → ℕ → Bool → Bool → ℕ → Change
not_change a b a_ended b_ended need =
    if a_ended then Change.Nothing
    else (if nat_lt a need then Change.Nothing
    else (if b_ended then Change.First
    else Change.Keep))

abbrev pub xor_change : ℕ → ℕ → Bool → Bool → ℕ → Change
xor_change a b a_ended b_ended need =
    if a_ended && b_ended then Change.Nothing
    else (if a_ended then Change.Second
    else (if b_ended then Change.First
    else (if nat_lt a need && nat_lt b need then Change.Nothing
    else (if nat_lt b need then Change.Not
    else (if nat_lt a need then Change.NotSwap
    else Change.Keep)))))

abbrev pub max_change : ℕ → ℕ → Bool → Bool → ℕ → Change
max_change a b a_ended b_ended need =
    if a_ended && b_ended then Change.Nothing
    else (if a_ended then Change.Second
    else (if b_ended then Change.First
    else (if nat_lt a need && nat_lt b need then Change.Nothing
    else (if nat_lt a need then Change.Second
    else (if nat_lt b need then Change.First
    else Change.Keep)))))

-- The table of a form.
abbrev pub change_of : Form → ℕ → ℕ → Bool → Bool → ℕ → Change
change_of Form.And a b a_ended b_ended need = both_change a b a_ended b_ended need
change_of Form.Or a b a_ended b_ended need = or_change a b a_ended b_ended need
change_of Form.Xor a b a_ended b_ended need = xor_change a b a_ended b_ended need
change_of Form.Max a b a_ended b_ended need = max_change a b a_ended b_ended need
change_of Form.AndNot a b a_ended b_ended need = not_change a b a_ended b_ended need
change_of Form.AndMaybe a b a_ended b_ended need = maybe_change a b a_ended b_ended need
change_of Form.Filter a b a_ended b_ended need = filter_change a b a_ended b_ended need

-- An or becomes an and_maybe, and an or or an and_maybe an and, under a need alone; an xor alone becomes an and_not; and
-- the second side comes to lead only where the first did not.
abbrev pub LeadsByNeed : Change → Form → ℕ → Type 0
LeadsByNeed Change.Keep form need = Unit {0}
LeadsByNeed Change.Nothing form need = Unit {0}
LeadsByNeed Change.First form need = Unit {0}
LeadsByNeed Change.Second form need = is_led form ≡ false
LeadsByNeed Change.Maybe Form.Or need = 0 < need
LeadsByNeed Change.Maybe _ need = ⊥
LeadsByNeed Change.MaybeSwap Form.Or need = 0 < need
LeadsByNeed Change.MaybeSwap _ need = ⊥
LeadsByNeed Change.Both Form.Or need = 0 < need
LeadsByNeed Change.Both Form.AndMaybe need = 0 < need
LeadsByNeed Change.Both _ need = ⊥
LeadsByNeed Change.Not Form.Xor need = Unit {0}
LeadsByNeed Change.Not _ need = ⊥
LeadsByNeed Change.NotSwap Form.Xor need = Unit {0}
LeadsByNeed Change.NotSwap _ need = ⊥

-- One side goes on alone only where it has not ended.
abbrev pub TakesOpen : Change → Bool → Bool → Type 0
TakesOpen Change.Keep a_ended b_ended = Unit {0}
TakesOpen Change.Nothing a_ended b_ended = Unit {0}
TakesOpen Change.First a_ended b_ended = a_ended ≡ false
TakesOpen Change.Second a_ended b_ended = b_ended ≡ false
TakesOpen Change.Maybe a_ended b_ended = Unit {0}
TakesOpen Change.MaybeSwap a_ended b_ended = Unit {0}
TakesOpen Change.Both a_ended b_ended = Unit {0}
TakesOpen Change.Not a_ended b_ended = Unit {0}
TakesOpen Change.NotSwap a_ended b_ended = Unit {0}

-- A change may stand for two sides under a form and a need: what it gives covers what they give, and it can weigh no more; another form
-- comes by the need alone, the second side leads only where the first did not, and no side goes on alone that has ended.
pub record Serves (change : Change) (form : Form) (a b : ℕ) (a_ended b_ended : Bool) (need : ℕ) : Type 0 where
  pub covers : (v w : Option ℕ) → IsSide a a_ended v → IsSide b b_ended w → CoversAt (paired form v w) (changed change form v w) need
  pub falls : changed_greatest change form a b ≤ greatest_under form a b
  pub needed : LeadsByNeed change form need
  pub alone : TakesOpen change a_ended b_ended
