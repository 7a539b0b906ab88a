-- What was seen of the matches of a find, where some that cannot enter its page were passed over.
-- Source: Own.
use Rattle.std.specs.Prelude.{◌≡◌, ◌⊎◌, Bool, true, List, [], ◌∷◌}
use Rattle.std.specs.List.{list_all}
use Rattle.sk_base.specs.declared.rank.Rank.{Rank}
use Rattle.sk_base.specs.declared.rank.Order.{Order}
use Rattle.sk_base.specs.Before.{is_before}

-- Each of these comes before the match.
abbrev pub is_behind_page : Order → List Rank → Rank → Bool
is_behind_page order held r = list_all (λ h. is_before order h r) held

-- The second list is what was seen of the first, in order: what was passed over is behind, and what was seen with another weight is so with either.
abbrev pub Shown : (Rank → Bool) → List Rank → List Rank → Type 0
Shown behind [] seen = seen ≡ []
Shown behind (r ∷ rs) seen =
    ((behind r ≡ true) × Shown behind rs seen)
    ⊎ ((s : Rank) × (more : List Rank) × (seen ≡ s ∷ more) × (s.id ≡ r.id) × ((s ≡ r) ⊎ ((behind r ≡ true) × (behind s ≡ true))) × Shown behind rs more)
