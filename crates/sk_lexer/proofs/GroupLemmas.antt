-- How far a group reaches.
use Rattle.std.proofs.Common.{◌≡◌, ◌<◌, ℕ, zero, suc, ◌+◌, Bool, true, false, if◌then◌else◌, List, ◌∷◌, length, drop, get_or, refl, sym, ap, ◌∙◌, arith, add-one, drop-cons}
use Rattle.sk_text.specs.Characters.{is_word_char, belongs}
use Rattle.sk_grammar.specs.Characters.{is_joiner, past_joiner, group_len}

-- Where a group ends that has so many characters more behind a place, and else ended there.
abbrev pub ends_at : ℕ → ℕ → ℕ → ℕ
ends_at end i zero = end
ends_at end i (suc n) = i + suc n

-- The next character of a list.
pub next_char : (cs : List ℕ) (i c : ℕ) → i < length cs → c ≡ get_or cs i c → drop i cs ≡ c ∷ drop (i + 1) cs
next_char cs i c l e = rw add-one (drop-cons cs i c l ∙ ap (λ w. w ∷ drop (suc i) cs) (sym e))

-- A character that belongs to a word.
in_word : (end i n : ℕ) → ends_at end i (suc n) ≡ ends_at (i + 1) (i + 1) n
in_word end i zero = omega arith
in_word end i (suc n) = let same : i + suc (suc n) ≡ i + 1 + suc n = omega arith in same

pub group_in : (cs : List ℕ) (after : Bool) (end i c : ℕ) → i < length cs → c ≡ get_or cs i c → belongs after c (drop (i + 1) cs) ≡ true
    → ends_at end i (group_len after (drop i cs)) ≡ ends_at (i + 1) (i + 1) (group_len (is_word_char c) (drop (i + 1) cs))
group_in cs after end i c l e b =
    ap (λ (w : List ℕ). ends_at end i (group_len after w)) (next_char cs i c l e)
    ∙ ap (λ (t : Bool). ends_at end i (if t then suc (group_len (is_word_char c) (drop (i + 1) cs)) else (if is_joiner c then past_joiner (group_len (is_word_char c) (drop (i + 1) cs)) else 0))) b
    ∙ in_word end i (group_len (is_word_char c) (drop (i + 1) cs))

-- A joiner.
past : (end i n : ℕ) → ends_at end i (past_joiner n) ≡ ends_at end (i + 1) n
past end i zero = refl
past end i (suc n) = let same : i + suc (suc n) ≡ i + 1 + suc n = omega arith in same

pub group_past : (cs : List ℕ) (after : Bool) (end i c : ℕ) → i < length cs → c ≡ get_or cs i c → belongs after c (drop (i + 1) cs) ≡ false → is_joiner c ≡ true
    → ends_at end i (group_len after (drop i cs)) ≡ ends_at end (i + 1) (group_len (is_word_char c) (drop (i + 1) cs))
group_past cs after end i c l e b j =
    ap (λ (w : List ℕ). ends_at end i (group_len after w)) (next_char cs i c l e)
    ∙ ap (λ (t : Bool). ends_at end i (if t then suc (group_len (is_word_char c) (drop (i + 1) cs)) else (if is_joiner c then past_joiner (group_len (is_word_char c) (drop (i + 1) cs)) else 0))) b
    ∙ ap (λ (t : Bool). ends_at end i (if t then past_joiner (group_len (is_word_char c) (drop (i + 1) cs)) else 0)) j
    ∙ past end i (group_len (is_word_char c) (drop (i + 1) cs))

-- Any other character.
pub group_out : (cs : List ℕ) (after : Bool) (end i c : ℕ) → i < length cs → c ≡ get_or cs i c → belongs after c (drop (i + 1) cs) ≡ false → is_joiner c ≡ false
    → ends_at end i (group_len after (drop i cs)) ≡ end
group_out cs after end i c l e b j =
    ap (λ (w : List ℕ). ends_at end i (group_len after w)) (next_char cs i c l e)
    ∙ ap (λ (t : Bool). ends_at end i (if t then suc (group_len (is_word_char c) (drop (i + 1) cs)) else (if is_joiner c then past_joiner (group_len (is_word_char c) (drop (i + 1) cs)) else 0))) b
    ∙ ap (λ (t : Bool). ends_at end i (if t then past_joiner (group_len (is_word_char c) (drop (i + 1) cs)) else 0)) j

-- The start.
pub group_start : (cs : List ℕ) → ends_at 0 0 (group_len false cs) ≡ group_len false cs
group_start cs = from_zero (group_len false cs)
  where
    from_zero : (n : ℕ) → ends_at 0 0 n ≡ n
    from_zero zero = refl
    from_zero (suc n) = let same : 0 + suc n ≡ suc n = omega arith in same
