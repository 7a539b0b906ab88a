-- The rule of the longest suffix, and what it leaves of a word.
use Rattle.std.proofs.Common.{◌≡◌, ◌≢◌, ◌+◌, ◌⊎◌, inl, inr, subst, ℕ, ◌-◌, ◌≤◌, ◌<◌, Bool, true, false, not, ◌&&◌, if◌then◌else◌, ltb, leb, eqb, Option, Some, None, List, [], ◌∷◌, ◌++◌, length, drop, get_or, refl, sym, ap, ◌∙◌, arith, length-drop}
use Rattle.std.specs.Cmp.Lexicographic.{pointwise, same_text}
use Rattle.std.specs.Cmp.Derive.{both_true}
use Rattle.std.specs.List.{list_all}
use Rattle.std.proofs.lemmas.Bool.Decides.{nat_tests}
use Rattle.std.proofs.lemmas.List.{drop-drop, get_or-drop, take-append-drop}
use Rattle.std.proofs.lemmas.Bool.{false_from_ne_true}
use Rattle.sk_stem.specs.Letters.{ends_in}
use Rattle.sk_stem.specs.Rules.{Rule, without_last, longer, longest}
use Rattle.sk_stem.specs.Tables.{hides, is_table}

-- where a word ends with letters, they are its last
pub ends_in-last : (suffix word : List ℕ) → ends_in suffix word ≡ true → drop (length word - length suffix) word ≡ suffix
ends_in-last suffix word e = sym (same_text suffix (drop (length word - length suffix) word) (sym e))

-- and are no more than it has
pub ends_in-length : (suffix word : List ℕ) → ends_in suffix word ≡ true → length suffix ≤ length word
ends_in-length suffix word e =
    let same : length (drop (length word - length suffix) word) ≡ length suffix = ap length (ends_in-last suffix word e) in
    let size : length (drop (length word - length suffix) word) ≡ length word - (length word - length suffix) = length-drop (length word - length suffix) word in
    omega arith

-- what stands before them, and they, are the word
pub ends_in-whole : (suffix word : List ℕ) → ends_in suffix word ≡ true → without_last (length suffix) word ++ suffix ≡ word
ends_in-whole suffix word e =
    ap (λ s. without_last (length suffix) word ++ s) (sym (ends_in-last suffix word e)) ∙ take-append-drop (length word - length suffix) word

-- where the last letters differ, a word does not end so
pub ends_in-other : (suffix word : List ℕ) → 1 ≤ length suffix → get_or suffix (length suffix - 1) 0 ≢ get_or word (length word - 1) 0 → ends_in suffix word ≡ false
ends_in-other suffix word some other = false_from_ne_true (ends_in suffix word) (λ e. other (last_letter e))
  where
    last_letter : ends_in suffix word ≡ true → get_or suffix (length suffix - 1) 0 ≡ get_or word (length word - 1) 0
    last_letter e =
        let fits : length suffix ≤ length word = ends_in-length suffix word e in
        let at : (length word - length suffix) + (length suffix - 1) ≡ length word - 1 = omega arith in
        ap (λ s. get_or s (length suffix - 1) 0) (sym (ends_in-last suffix word e)) ∙ get_or-drop (length word - length suffix) word (length suffix - 1) 0 ∙ ap (λ n. get_or word n 0) at

-- of two suffixes of a word the longer ends with the shorter
pub ends_in-longer : (a b word : List ℕ) → ends_in a word ≡ true → ends_in b word ≡ true → length a < length b → ends_in a b ≡ true
ends_in-longer a b word e f lt =
    let fits : length b ≤ length word = ends_in-length b word f in
    let same : drop (length b - length a) b ≡ drop (length word - length a) word =
    ap (drop (length b - length a)) (sym (ends_in-last b word f)) ∙ drop-drop (length b - length a) (length word - length b) word ∙ ap (λ n. drop n word) (omega arith) in
    ap (pointwise eqb a) same ∙ e

-- two tests that both pass
pub both : (a b : Bool) → (a && b) ≡ true → (a ≡ true) × (b ≡ true)
both true b e = (refl, e)
both false b e = cc

-- which of two rules is chosen
chosen_by : (r t s : Rule) (b : Bool) → (if b then Some t else Some r) ≡ Some s → (r ≡ s) ⊎ (Some t ≡ Some s)
chosen_by r t s true e = inr e
chosen_by r t s false e = inl cc

chosen : (r : Rule) (o : Option Rule) (s : Rule) → longer r o ≡ Some s → (r ≡ s) ⊎ (o ≡ Some s)
chosen r None s e = inl cc
chosen r (Some t) s e = chosen_by r t s (ltb (length r.suffix) (length t.suffix)) e

-- that a word ends with the rule's suffix, and that the rule passes a test
abbrev pub Passes : (Rule → Bool) → List ℕ → Rule → Type 0
Passes p word r = (ends_in r.suffix word ≡ true) × (p r ≡ true)

among_by : (p : Rule → Bool) (word : List ℕ) (r : Rule) (rs : List Rule) (s : Rule) (b : Bool)
    → ends_in r.suffix word ≡ b → p r ≡ true → (longest word rs ≡ Some s → Passes p word s)
    → (if b then longer r (longest word rs) else longest word rs) ≡ Some s → Passes p word s
among_by p word r rs s true is passes later e =
    elim (chosen r (longest word rs) s e) [ inl same ↦ subst (Passes p word) same (is, passes) | inr other ↦ later other ]
among_by p word r rs s false is passes later e = later e

-- the rule that is looked at passes what all of the rules pass, and the word ends with its suffix
pub longest-passes : (p : Rule → Bool) (word : List ℕ) (rs : List Rule) (s : Rule) → list_all p rs ≡ true → longest word rs ≡ Some s → Passes p word s
longest-passes p word [] s all e = cc
longest-passes p word (r ∷ rs) s all e =
    let parts = both (p r) (list_all p rs) all in
    among_by p word r rs s (ends_in r.suffix word) refl parts.0 (longest-passes p word rs s parts.1) e

not_longer : (r s : Rule) (word : List ℕ) (b : Bool)
    → ltb (length r.suffix) (length s.suffix) ≡ b → ends_in r.suffix word ≡ true → ends_in s.suffix word ≡ true → not (hides r s) ≡ true
    → (if b then Some s else Some r) ≡ Some r
not_longer r s word true lt e f apart =
    let less : length r.suffix < length s.suffix = grind (arith, nat_tests) in
    let hidden : hides r s ≡ true = both_true lt (ends_in-longer r.suffix s.suffix word e f less) in
    cc
not_longer r s word false lt e f apart = refl

stays : (word : List ℕ) (r : Rule) (rs : List Rule) (o : Option Rule) → longest word rs ≡ o → list_all (λ s. not (hides r s)) rs ≡ true → ends_in r.suffix word ≡ true → longer r o ≡ Some r
stays word r rs None e apart is = refl
stays word r rs (Some s) e apart is =
    let at = longest-passes (λ t. not (hides r t)) word rs s apart e in
    not_longer r s word (ltb (length r.suffix) (length s.suffix)) refl is at.0 at.1

-- the first rule of a table whose suffix the word ends with is the one that is looked at
pub longest-first : (word : List ℕ) (r : Rule) (rs : List Rule) → is_table (r ∷ rs) ≡ true → ends_in r.suffix word ≡ true → longest word (r ∷ rs) ≡ Some r
longest-first word r rs table is =
    let front = both (leb (length r.replacement) (length r.suffix) && list_all (λ s. not (hides r s)) rs) (is_table rs) table in
    let apart = both (leb (length r.replacement) (length r.suffix)) (list_all (λ s. not (hides r s)) rs) front.0 in
    ap (λ b. if b then longer r (longest word rs) else longest word rs) is ∙ stays word r rs (longest word rs) refl apart.1 is
