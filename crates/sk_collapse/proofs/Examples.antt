-- Five matches of three keys, worked out by hand: what is kept of them, and what becomes of each.
use Rattle.std.proofs.Common.{◌≡◌, ℕ, false, ◌==◌, nat_lt, List, [], ◌∷◌, map, refl, codes, if◌then◌else◌}
use Rattle.sk_base.specs.declared.rank.Rank.{Rank}
use Rattle.sk_base.specs.declared.rank.Order.{Order}
use Rattle.sk_base.specs.declared.rank.OrderBy.TheVariants as OrderBy
use Rattle.sk_collapse.specs.Collapsed.{kept_in, dropped_in}
use Rattle.sk_collapse.specs.Verdicts.{verdict_of, without_rank}
use Rattle.sk_collapse.specs.declared.verdict.Verdict.TheVariants as Verdict
use Rattle.sk_collapse.specs.Groups.{group_with}

abbrev heaviest : Order
heaviest = record { by = OrderBy.Relevance; falling = false }

abbrev match_of : ℕ → ℕ → Rank
match_of weight id = record { weight = weight; value = []; id = id }

-- the first three have the key a, the fourth b, and the fifth none
abbrev key : Rank → List ℕ
key x = if nat_lt x.id 4 then codes "a" else if x.id == 4 then codes "b" else []

abbrev five : List Rank
five = match_of 2 5 ∷ match_of 4 4 ∷ match_of 3 3 ∷ match_of 7 2 ∷ match_of 5 1 ∷ []

abbrev ids : List Rank → List ℕ
ids ranks = map (λ x. x.id) ranks

-- the best of each key, and the one without a key
best_of_each : ids (kept_in heaviest 1 key five) ≡ 2 ∷ 4 ∷ 5 ∷ []
best_of_each = refl

best_two_of_each : ids (kept_in heaviest 2 key five) ≡ 2 ∷ 1 ∷ 4 ∷ 5 ∷ []
best_two_of_each = refl

two_dropped : dropped_in heaviest 1 key (codes "a") five ≡ 2
two_dropped = refl

none_of_the_empty_key : dropped_in heaviest 1 key [] five ≡ 0
none_of_the_empty_key = refl

-- the second comes for the first, and the third is dropped
stays : verdict_of 1 [] ≡ Verdict.Keep
stays = refl

comes_for_another : verdict_of 2 (match_of 5 1 ∷ []) ≡ Verdict.KeepFor 1
comes_for_another = refl

falls_out_itself : verdict_of 3 (match_of 3 3 ∷ []) ≡ Verdict.Drop
falls_out_itself = refl

takes_its_place : group_with heaviest 1 (match_of 7 2) (record { kept = match_of 5 1 ∷ []; dropped = 0 }) ≡ record { kept = match_of 7 2 ∷ []; dropped = 1 }
takes_its_place = refl

others_stay : ids (without_rank 4 five) ≡ 5 ∷ 3 ∷ 2 ∷ 1 ∷ []
others_stay = refl
