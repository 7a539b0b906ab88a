-- How long runs of characters are.
use Rattle.std.proofs.Common.{◌≡◌, ◌≤◌, ℕ, ◌+◌, Bool, true, false, not, cond, List, [], ◌∷◌, ◌++◌, length, take, drop, encode_utf8, encode_utf8_all, length-append, Some, None, unwrap_or, position, nat_lt, refl, ap, arith}
use Rattle.std.proofs.lemmas.Bool.Decides.{nat_tests}
use Rattle.std.proofs.lemmas.List.Sums.{prefix_len-le-length}
use Rattle.std.proofs.lemmas.List.{take-append-drop}
use Rattle.std.proofs.lemmas.List.Sums.{sum_by-cons, sum_by-append}
use Rattle.std.proofs.lemmas.Str.{length-encode}
use Rattle.std.specs.Char.{len_utf8}
use Rattle.std.specs.List.{prefix_len}
use Rattle.sk_grammar.specs.Cutting.{byte_len}

within : (n m : ℕ) → n ≤ m → unwrap_or (cond (nat_lt n m) (Some n) None) m ≡ n
within n m h = elim (nat_lt n m) as (λ b. nat_lt n m ≡ b → unwrap_or (cond b (Some n) None) m ≡ n) [
  | true ↦ λ e. refl
  | false ↦ λ e. grind (arith, nat_tests)
] refl

-- The place at which a test first fails, or the end.
pub place_len : (p : ℕ → Bool) (xs : List ℕ) → unwrap_or (position p xs) (length xs) ≡ prefix_len (λ x. not (p x)) xs
place_len p xs = within (prefix_len (λ x. not (p x)) xs) (length xs) (prefix_len-le-length (λ x. not (p x)) xs)

twice : (b : Bool) → not (not b) ≡ b
twice true = refl
twice false = refl

pub same_len : (p : ℕ → Bool) (xs : List ℕ) → prefix_len (λ x. not (not (p x))) xs ≡ prefix_len p xs
same_len p xs = ap (λ (q : ℕ → Bool). prefix_len q xs) (λ i x. twice (p x) i)

-- The bytes of characters.
pub length_encoded : (cs : List ℕ) → length (encode_utf8_all cs) ≡ byte_len cs
length_encoded [] = refl
length_encoded (c ∷ cs) =
    let whole = length-append (encode_utf8 c) (encode_utf8_all cs) in
    let first = length-encode c in
    let more = length_encoded cs in
    let sum = sum_by-cons len_utf8 c cs in
    omega (arith, whole, first, more, sum)

-- The bytes of a front.
pub byte_len-front : (n : ℕ) (cs : List ℕ) → byte_len (take n cs) + byte_len (drop n cs) ≡ byte_len cs
byte_len-front n cs =
    let parts = sum_by-append len_utf8 (take n cs) (drop n cs) in
    let whole : byte_len (take n cs ++ drop n cs) ≡ byte_len cs = ap byte_len (take-append-drop n cs) in
    omega (arith, parts, whole)
