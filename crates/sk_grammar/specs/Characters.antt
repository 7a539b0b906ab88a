-- The characters of a query text, and the runs of them that its tokens are made of. Characters are their codes in Unicode.
use Rattle.std.specs.Prelude.{ℕ, zero, suc, ◌+◌, min, ◌==◌, ◌&&◌, ◌||◌, not, Bool, false, List, [], ◌∷◌, length, take, map, if◌then◌else◌}
use Rattle.std.specs.List.{list_any, prefix_len}
use Rattle.std.specs.Char.{is_whitespace}
use Rattle.sk_text.specs.declared.word.Word.{Word}
use Rattle.sk_text.specs.Characters.{is_word_char, is_capital, belongs}
use Rattle.sk_text.specs.Words.{words_from}

-- The first of these characters is a capital letter.
abbrev pub begins_capital : List ℕ → Bool
begins_capital [] = false
begins_capital (c ∷ cs) = is_capital c

-- A joiner: one of `.` (46), `-` (45), `/` (47), `:` (58), `\` (92) and `@` (64).
abbrev pub is_joiner : ℕ → Bool
is_joiner c = c == 46 || c == 45 || c == 47 || c == 58 || c == 92 || c == 64

-- The length of a run with a joiner put before it, where joiners without a word behind them don't count.
abbrev pub past_joiner : ℕ → ℕ
past_joiner zero = zero
past_joiner (suc n) = suc (suc n)

-- How many characters the group at this place has, where a word character stands right before it or none does (`after`): words with joiners
-- and nothing else between two of them, as many as can be had. So it is all that belongs to words or joins, but the joiners at the end.
abbrev pub group_len : Bool → List ℕ → ℕ
group_len after [] = 0
group_len after (c ∷ cs) =
    if belongs after c cs then suc (group_len (is_word_char c) cs)
    else (if is_joiner c then past_joiner (group_len (is_word_char c) cs)
    else 0)

-- How many characters stand behind a quote's first `"` (34) and before the next, or up to the end of the text.
abbrev pub inner_len : List ℕ → ℕ
inner_len cs = prefix_len (λ c. not (c == 34)) cs

-- The characters of a quote between its first `"` and the next.
abbrev pub inner : List ℕ → List ℕ
inner cs = take (inner_len cs) cs

-- How many characters a quote has, by what stands behind its first `"`: that one, those inside, and the next `"` where there is one.
abbrev pub quote_len : List ℕ → ℕ
quote_len cs = 1 + min (1 + inner_len cs) (length cs)

-- A quote is good where a word stands inside.
abbrev pub is_good : List ℕ → Bool
is_good cs = list_any is_word_char (inner cs)

-- A character that is neither white space nor `)` (41).
abbrev pub runs_on : ℕ → Bool
runs_on c = not (is_whitespace c) && not (c == 41)

-- How many characters the longest run of those has.
abbrev pub run_len : List ℕ → ℕ
run_len cs = prefix_len runs_on cs

-- The term of a word.
abbrev pub word_term : Word → List ℕ
word_term w = w.term

-- The terms of the words of a run, where no word character stands right before it or right behind it.
abbrev pub run_terms : List ℕ → List (List ℕ)
run_terms cs = map word_term (words_from 1 false 0 0 [] cs)
