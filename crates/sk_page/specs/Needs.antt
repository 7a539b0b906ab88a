-- When a search is settled, and what it asks its tree for.
-- Source: Own.
use Rattle.std.specs.Prelude.{ℕ, ◌+◌, ◌||◌, ◌&&◌, max, nat_le, nat_lt, Bool, true, Option, None, Some, if◌then◌else◌}
use Rattle.sk_base.specs.declared.find.Options.{Options}
use Rattle.sk_model.specs.Counts.{wanted_by}
use Rattle.sk_heap.specs.Held.{Held, need_of}

-- Nothing of this weight can come to a page with this need.
abbrev pub is_above : Option ℕ → ℕ → Bool
is_above None ceiling = true
is_above (Some need) ceiling = nat_lt ceiling need

-- No match that is left can weigh as much as the cutoff; or enough were seen, and none can enter the page.
abbrev pub is_settled : Options → ℕ → Held → ℕ → Bool
is_settled options seen held ceiling = nat_lt ceiling options.cutoff || (nat_le (wanted_by options) seen && is_above (need_of held) ceiling)

-- The need of a page, and no less than the cutoff; where the page needs nothing, more than any weight.
abbrev pub need_at : Option ℕ → ℕ → ℕ → ℕ
need_at None cutoff ceiling = ceiling + 1
need_at (Some need) cutoff ceiling = max need cutoff

-- What a tree is asked for: the cutoff, until enough matches were seen.
abbrev pub need_for : Options → ℕ → Held → ℕ → ℕ
need_for options seen held ceiling = if nat_lt seen (wanted_by options) then options.cutoff else need_at (need_of held) options.cutoff ceiling

-- Nothing was passed over, and of what is left nothing weighs as much as the cutoff: nothing is left, or nothing that weighs more than the ceiling.
abbrev pub is_whole : Options → ℕ → Bool → ℕ → Bool
is_whole options need ended ceiling = nat_le need options.cutoff && (ended || nat_lt ceiling options.cutoff)
