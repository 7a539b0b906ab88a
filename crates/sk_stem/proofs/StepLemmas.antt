-- How a word from which ed or ing was taken off is completed.
use Rattle.std.proofs.Common.{◌≡◌, ℕ, Bool, true, false, ◌||◌, if◌then◌else◌, Option, None, List, ◌++◌, length, codes, refl, sym, ap, ◌∙◌, append_assoc}
use Rattle.sk_stem.specs.Letters.{ends_in}
use Rattle.sk_stem.specs.Rules.{Rule, rule, always, without_last, longer, rules_completing}
use Rattle.sk_stem.specs.Stems.{completed, completed_by, repaired}
use Rattle.sk_stem.proofs.RuleLemmas.{ends_in-whole}

-- a rule that puts an e behind a suffix that stays
adds_e : (suffix word : List ℕ) → ends_in suffix word ≡ true → without_last (length suffix) word ++ (suffix ++ codes "e") ≡ word ++ codes "e"
adds_e suffix word is = sym (append_assoc (without_last (length suffix) word) suffix (codes "e")) ∙ ap (λ w. w ++ codes "e") (ends_in-whole suffix word is)

abbrev completing : List ℕ → Rule
completing suffix = rule suffix (suffix ++ codes "e") always

-- which of the three rules is looked at, by the tests of their suffixes
abbrev looked_at : Bool → Bool → Bool → Option Rule
looked_at a b c =
    let third : Option Rule = if c then longer (completing (codes "iz")) None else None in
    let second : Option Rule = if b then longer (completing (codes "bl")) third else third in
    if a then longer (completing (codes "at")) second else second

completed_looked_at : (word : List ℕ) (a b c : Bool) → ends_in (codes "at") word ≡ a → ends_in (codes "bl") word ≡ b → ends_in (codes "iz") word ≡ c → (a || b || c) ≡ true
    → completed_by word (looked_at a b c) ≡ word ++ codes "e"
completed_looked_at word true true true p q r some = adds_e (codes "at") word p
completed_looked_at word true true false p q r some = adds_e (codes "at") word p
completed_looked_at word true false true p q r some = adds_e (codes "at") word p
completed_looked_at word true false false p q r some = adds_e (codes "at") word p
completed_looked_at word false true true p q r some = adds_e (codes "bl") word q
completed_looked_at word false true false p q r some = adds_e (codes "bl") word q
completed_looked_at word false false true p q r some = adds_e (codes "iz") word r
completed_looked_at word false false false p q r some = cc

-- a word that ends with at, bl or iz
pub completed-adds_e : (word : List ℕ) → (ends_in (codes "at") word || ends_in (codes "bl") word || ends_in (codes "iz") word) ≡ true → completed word ≡ word ++ codes "e"
unfolding rules_completing
completed-adds_e word some = completed_looked_at word (ends_in (codes "at") word) (ends_in (codes "bl") word) (ends_in (codes "iz") word) refl refl refl some

repaired_looked_at : (word : List ℕ) (a b c : Bool) → (a || b || c) ≡ false → completed_by word (looked_at a b c) ≡ repaired word
repaired_looked_at word true b c none = cc
repaired_looked_at word false true c none = cc
repaired_looked_at word false false true none = cc
repaired_looked_at word false false false none = refl

-- and any other
pub completed-repaired : (word : List ℕ) → (ends_in (codes "at") word || ends_in (codes "bl") word || ends_in (codes "iz") word) ≡ false → completed word ≡ repaired word
unfolding rules_completing
completed-repaired word none = repaired_looked_at word (ends_in (codes "at") word) (ends_in (codes "bl") word) (ends_in (codes "iz") word) none
