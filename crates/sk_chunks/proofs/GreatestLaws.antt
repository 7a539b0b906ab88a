-- The greatest wdf behind an edit.
use Rattle.std.proofs.Common.{◌≡◌, ℕ, zero, suc, ◌≤◌, max, [], ◌∷◌, ◌++◌, take, drop, Some, None, arith}
use Rattle.std.proofs.lemmas.Bool.Decides.{nat_tests}
use Rattle.sk_sorted.specs.Entries.{put, without, found}
use Rattle.sk_chunks.specs.Postings.{Postings, greatest_wdf}

-- what is found is no greater than the greatest
found-greatest : (id wdf : ℕ) (ps : Postings) → found id ps ≡ Some wdf → wdf ≤ greatest_wdf ps
found-greatest id wdf [] there = cc
found-greatest id wdf (p ∷ ps) there = grind (arith, nat_tests, found-greatest id wdf ps)

-- behind a new entry
pub greatest-put_new : (id wdf : ℕ) (ps : Postings) → None ≡ found id ps → greatest_wdf (put id wdf ps) ≡ max (greatest_wdf ps) wdf
greatest-put_new id wdf [] absent = omega arith
greatest-put_new id wdf (p ∷ ps) absent = grind (arith, nat_tests, greatest-put_new id wdf ps)

-- behind a write, with the wdf that gave way
pub greatest-put_over : (id wdf gone : ℕ) (ps : Postings) → Some gone ≡ found id ps → max gone (greatest_wdf (put id wdf ps)) ≡ max (greatest_wdf ps) wdf
greatest-put_over id wdf gone [] there = cc
greatest-put_over id wdf gone (p ∷ ps) there = grind (arith, nat_tests, greatest-put_over id wdf gone ps, found-greatest id gone ps)

-- behind a removal, with the wdf that went
pub greatest-without : (id gone : ℕ) (ps : Postings) → Some gone ≡ found id ps → max gone (greatest_wdf (without id ps)) ≡ greatest_wdf ps
greatest-without id gone [] there = cc
greatest-without id gone (p ∷ ps) there = grind (arith, nat_tests, greatest-without id gone ps)

-- of two lists
pub greatest-append : (ps qs : Postings) → greatest_wdf (ps ++ qs) ≡ max (greatest_wdf ps) (greatest_wdf qs)
greatest-append [] qs = omega arith
greatest-append (p ∷ ps) qs = omega (arith, greatest-append ps qs)

-- a front and the rest have no greater one
pub greatest-take : (n : ℕ) (ps : Postings) → greatest_wdf (take n ps) ≤ greatest_wdf ps
greatest-take zero ps = omega arith
greatest-take (suc n) [] = omega arith
greatest-take (suc n) (p ∷ ps) = omega (arith, greatest-take n ps)

pub greatest-drop : (n : ℕ) (ps : Postings) → greatest_wdf (drop n ps) ≤ greatest_wdf ps
greatest-drop zero ps = omega arith
greatest-drop (suc n) [] = omega arith
greatest-drop (suc n) (p ∷ ps) = omega (arith, greatest-drop n ps)
