use Rattle.std.proofs.Common.{◌≡◌, ◌≤◌, ℕ, List, Bool, true, IfOk, sym, ap, ◌∙◌, length, subst, IsUtf8}
use Rattle.std.specs.String.{string_vec}
use Rattle.sk_stem.specs.Stems.{stem, is_stemmed, after_all_steps}
use Rattle.sk_stem.proofs.StemLaws.{stem-own, stem-stemmed, stem-length, stem-not_empty, stem-IsUtf8}
use Rattle.sk_stem.proofs.stem.porter.Goals as goal

pub returns-then-not-is_stemmed-clause-value : goal.returns-then-not-is_stemmed-clause-value
returns-then-not-is_stemmed-clause-value c =
    let own = sym (ap is_stemmed c.as_bytes.ensures.value) ∙ sym c.is_stemmed.ensures ∙ c.if-not-is_stemmed.true in
    c.in_ok-text.ensures.ok ∙ sym (stem-own c.args.word.now own)

-- what the steps leave
after_steps : (word bytes text letters : List ℕ) (b : Bool) → bytes ≡ word → b ≡ is_stemmed bytes → b ≡ true → text ≡ word → letters ≡ after_all_steps text → letters ≡ stem word
after_steps word bytes text letters b same test taken read steps =
    let is : is_stemmed word ≡ true = sym (ap is_stemmed same) ∙ sym test ∙ taken in
    steps ∙ ap after_all_steps read ∙ sym (stem-stemmed word is)

pub unwrap-text-requires : goal.unwrap-text-requires
unwrap-text-requires c =
    let left = after_steps c.args.word.now _ _ _ _ c.as_bytes.ensures.value c.is_stemmed.ensures c.if-not-is_stemmed.false
    (ap (λ v. v.items) c.into_bytes-letters.ensures.value ∙ c.in_ok-text.ensures.ok) c.all_steps.ensures in
    c.from_utf8.ensures.succeeds (subst IsUtf8 (sym left) (stem-IsUtf8 c.args.word.now c.utf8.word))

value : (c : goal.After-unwrap-text) → c.unwrap-text.result.bytes.items ≡ stem c.args.word.now
value c =
    let left = after_steps c.args.word.now _ _ _ _ c.as_bytes.ensures.value c.is_stemmed.ensures c.if-not-is_stemmed.false
    (ap (λ v. v.items) c.into_bytes-letters.ensures.value ∙ c.in_ok-text.ensures.ok) c.all_steps.ensures in
    let kept = subst (λ r. IfOk r (λ t. string_vec t ≡ c.all_steps.new.word)) c.unwrap-text.ensures c.from_utf8.ensures.ok in
    ap (λ v. v.items) kept ∙ left

pub returns-clause-value : goal.returns-clause-value
returns-clause-value c = value c

pub returns-clause-length : goal.returns-clause-length
returns-clause-length c = subst (λ t. length t ≤ length c.args.word.now) (sym (value c)) (stem-length c.args.word.now)

pub returns-clause-some : goal.returns-clause-some
returns-clause-some c = λ some none. stem-not_empty c.args.word.now some (sym (value c) ∙ none)
