-- What is counted of values, worked out.
use Rattle.std.specs.Prelude.{ℕ, ◌+◌, ◌==◌, Bool, List, [], ◌∷◌, length, bytes_eq, if◌then◌else◌}
use Rattle.std.specs.List.{list_any}
use Rattle.std.specs.Ordering.{is_lt}
use Rattle.sk_base.specs.declared.facets.Facet.{Facet}
use Rattle.sk_model.specs.Laws.{facet_cmp}

-- The count of this value, where it is there, one greater.
abbrev pub raised : List ℕ → List Facet → List Facet
raised v [] = []
raised v (f ∷ fs) = if bytes_eq f.value v then record { value = f.value; count = f.count + 1 } ∷ fs else f ∷ raised v fs

-- One more of a value.
abbrev pub with_one : List ℕ → List Facet → List Facet
with_one v fs = if list_any (λ f. bytes_eq f.value v) fs then raised v fs else record { value = v; count = 1 } ∷ fs

-- Each of these values that is not empty, with how many of them it is.
abbrev pub tally : List (List ℕ) → List Facet
tally [] = []
tally (v ∷ vs) = if length v == 0 then tally vs else with_one v (tally vs)

-- The first stands before the second.
abbrev pub is_first : Facet → Facet → Bool
is_first f g = is_lt (facet_cmp f g)

-- One more in its place.
abbrev pub placed : Facet → List Facet → List Facet
placed f [] = f ∷ []
placed f (g ∷ gs) = if is_first f g then f ∷ g ∷ gs else g ∷ placed f gs

-- They in order.
abbrev pub in_order : List Facet → List Facet
in_order [] = []
in_order (f ∷ fs) = placed f (in_order fs)

-- What is counted of these values.
abbrev pub counted : List (List ℕ) → List Facet
counted values = in_order (tally values)
