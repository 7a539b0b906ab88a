-- The order of two strings of bytes, by a loop over both, and by the numbers that they spell.
use Rattle.std.proofs.Common.{◌≡◌, ℕ, zero, suc, ◌+◌, ◌*◌, ◌<◌, ◌≤◌, min, nat_le, true, false, List, [], ◌∷◌, length, drop, get_or, Ordering, refl, sym, ap, ◌∙◌, arith}
use Rattle.std.proofs.lemmas.Bool.Decides.{nat_tests}
use Rattle.std.specs.Ordering.{nat_cmp, is_le, ordering_then, MatchOrdering}
use Rattle.std.specs.declared.cmp.Ordering.TheVariants.{Less, Equal, Greater}
use Rattle.std.specs.Cmp.{ranks}
use Rattle.std.specs.Cmp.Lexicographic.{slice_cmp}
use Rattle.std.specs.Slice.Scan.{big_endian}

-- where one of them has ended, their lengths decide
pub lengths_decide : (i : ℕ) (a b : List ℕ) → i ≤ length a → i ≤ length b → min (length a) (length b) ≤ i → nat_le (length a) (length b) ≡ is_le (slice_cmp nat_cmp (drop i a) (drop i b))
lengths_decide zero [] [] first second ended = grind (arith, nat_tests)
lengths_decide zero [] (y ∷ ys) first second ended = grind (arith, nat_tests)
lengths_decide zero (x ∷ xs) [] first second ended = grind (arith, nat_tests)
lengths_decide zero (x ∷ xs) (y ∷ ys) first second ended = absurd (omega arith)
lengths_decide (suc i) [] b first second ended = absurd (omega arith)
lengths_decide (suc i) (x ∷ xs) [] first second ended = absurd (omega arith)
lengths_decide (suc i) (x ∷ xs) (y ∷ ys) first second ended =
    let shorter : nat_le (suc (length xs)) (suc (length ys)) ≡ nat_le (length xs) (length ys) = grind (arith, nat_tests) in
    shorter ∙ lengths_decide i xs ys (omega arith) (omega arith) (omega arith)

abbrev Bytes : List ℕ → Type 0
Bytes xs = (k : ℕ) → get_or xs k 0 < 256

-- what begins with less spells less
spells_less : (a b : ℕ) (xs ys : List ℕ) → length xs ≡ length ys → Bytes xs → a < b → big_endian a xs < big_endian b ys
spells_less a b [] [] long small lt = lt
spells_less a b [] (y ∷ ys) long small lt = absurd (omega arith)
spells_less a b (x ∷ xs) [] long small lt = absurd (omega arith)
spells_less a b (x ∷ xs) (y ∷ ys) long small lt =
    let byte : x < 256 = small 0 in
    spells_less (a * 256 + x) (b * 256 + y) xs ys (omega arith) (λ k. small (suc k)) (omega arith)

-- where they are as long, the numbers that they spell decide
pub numbers_decide : (n : ℕ) (a b : List ℕ) → length a ≡ length b → Bytes a → Bytes b → nat_le (big_endian n a) (big_endian n b) ≡ is_le (slice_cmp nat_cmp a b)
numbers_decide n [] [] long first second = grind (arith, nat_tests)
numbers_decide n [] (y ∷ ys) long first second = absurd (omega arith)
numbers_decide n (x ∷ xs) [] long first second = absurd (omega arith)
numbers_decide n (x ∷ xs) (y ∷ ys) long first second =
    by (numbers_decide (n * 256 + x) xs ys (omega arith) (λ k. first (suc k)) (λ k. second (suc k))) (nat_cmp x y) refl (ranks x y)
  where
    by : nat_le (big_endian (n * 256 + x) xs) (big_endian (n * 256 + x) ys) ≡ is_le (slice_cmp nat_cmp xs ys) → (r : Ordering) → nat_cmp x y ≡ r → MatchOrdering r (x < y) (x ≡ y) (y < x)
        → nat_le (big_endian (n * 256 + x) xs) (big_endian (n * 256 + y) ys) ≡ is_le (ordering_then (nat_cmp x y) (slice_cmp nat_cmp xs ys))
    by rest Less is lt =
        let less : x < y = lt in
        let spelt : big_endian (n * 256 + x) xs < big_endian (n * 256 + y) ys = spells_less (n * 256 + x) (n * 256 + y) xs ys (omega arith) (λ k. first (suc k)) (omega arith) in
        let holds : nat_le (big_endian (n * 256 + x) xs) (big_endian (n * 256 + y) ys) ≡ true = grind (arith, nat_tests, spelt) in
        holds ∙ sym (ap (λ r. is_le (ordering_then r (slice_cmp nat_cmp xs ys))) is)
    by rest Equal is same =
        ap (λ z. nat_le (big_endian (n * 256 + x) xs) (big_endian (n * 256 + z) ys)) (sym same)
        ∙ rest ∙ sym (ap (λ r. is_le (ordering_then r (slice_cmp nat_cmp xs ys))) is)
    by rest Greater is gt =
        let more : y < x = gt in
        let spelt : big_endian (n * 256 + y) ys < big_endian (n * 256 + x) xs = spells_less (n * 256 + y) (n * 256 + x) ys xs (omega arith) (λ k. second (suc k)) (omega arith) in
        let fails : nat_le (big_endian (n * 256 + x) xs) (big_endian (n * 256 + y) ys) ≡ false = grind (arith, nat_tests, spelt) in
        fails ∙ sym (ap (λ r. is_le (ordering_then r (slice_cmp nat_cmp xs ys))) is)
