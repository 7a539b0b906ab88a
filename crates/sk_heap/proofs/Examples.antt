-- Small values that the definitions must give, worked out by hand.
use Rattle.std.proofs.Common.{◌≡◌, ℕ, Bool, true, false, ◌∷◌, [], List, refl, Some, None, map}
use Rattle.sk_base.specs.declared.rank.OrderBy.{OrderBy}
use Rattle.sk_base.specs.declared.rank.SortKey.{SortKey}
use Rattle.sk_heap.specs.declared.hit.Hit.{Hit}
use Rattle.sk_heap.specs.Held.{Held, best_hits, need_of, offered, without_hit}

-- a hit of this weight, value and id
abbrev hit : ℕ → List ℕ → ℕ → Hit
hit weight value id = record { rank = record { weight = weight; value = value; id = id }; key = [] }

-- the ids of hits in an order
abbrev ids : OrderBy → Bool → List Hit → List ℕ
ids by falling hits = map (λ (h : Hit). h.rank.id) (best_hits (record { by = by; falling = falling }) hits)

abbrev key : SortKey
key = record { slot = 0; reverse = false }

abbrev three : List Hit
three = hit 5 (98 ∷ []) 1 ∷ hit 7 (98 ∷ []) 2 ∷ hit 5 (97 ∷ []) 3 ∷ []

-- the heavier first, and of equal weights the lower id
by_relevance : ids OrderBy.Relevance false three ≡ 2 ∷ 1 ∷ 3 ∷ []
by_relevance = refl

-- where ids fall the greater
falling : ids OrderBy.Relevance true three ≡ 2 ∷ 3 ∷ 1 ∷ []
falling = refl

by_value : ids (OrderBy.Value key) false three ≡ 3 ∷ 1 ∷ 2 ∷ []
by_value = refl

value_then_weight : ids (OrderBy.ValueThenRelevance key) false three ≡ 3 ∷ 2 ∷ 1 ∷ []
value_then_weight = refl

weight_then_value : ids (OrderBy.RelevanceThenValue key) false three ≡ 2 ∷ 3 ∷ 1 ∷ []
weight_then_value = refl

-- a heap of so many at the most
abbrev heap : ℕ → OrderBy → Bool → Held
heap most by falling = record { order = record { by = by; falling = falling }; most = most; room = most; hits = best_hits (record { by = by; falling = falling }) three }

-- full, the last weighs 5: one of a greater id needs 6
needs_more : need_of (heap 3 OrderBy.Relevance false) ≡ Some 6
needs_more = refl

-- where ids fall it needs 5, and where its value may be the better
needs_as_much : need_of (heap 3 OrderBy.Relevance true) ≡ Some 5
needs_as_much = refl

value_may_be_better : need_of (heap 3 (OrderBy.RelevanceThenValue key) false) ≡ Some 5
value_may_be_better = refl

-- by value any weight may do
needs_nothing : need_of (heap 3 (OrderBy.Value key) false) ≡ Some 0
needs_nothing = refl

weight_comes_second : need_of (heap 3 (OrderBy.ValueThenRelevance key) true) ≡ Some 0
weight_comes_second = refl

-- one more may be held
not_full : need_of (heap 4 OrderBy.Relevance false) ≡ Some 0
not_full = refl

-- none may
holds_none : need_of (record { order = record { by = OrderBy.Relevance; falling = false }; most = 0; room = 0; hits = [] }) ≡ None
holds_none = refl

-- a heavier hit enters, and the last falls out
enters : map (λ (h : Hit). h.rank.id) (offered (hit 6 [] 4) (heap 3 OrderBy.Relevance false)).hits ≡ 2 ∷ 4 ∷ 1 ∷ []
enters = refl

-- one of the last's weight does not
stays_out : map (λ (h : Hit). h.rank.id) (offered (hit 5 [] 4) (heap 3 OrderBy.Relevance false)).hits ≡ 2 ∷ 1 ∷ 3 ∷ []
stays_out = refl

taken_out : map (λ (h : Hit). h.rank.id) (without_hit 1 (heap 3 OrderBy.Relevance false)).hits ≡ 2 ∷ 3 ∷ []
taken_out = refl
