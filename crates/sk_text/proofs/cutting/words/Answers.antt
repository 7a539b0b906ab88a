use Rattle.std.proofs.Common.{length, ◌-◌, ◌≡◌, sym, ap, ◌∙◌, chars, arith}
use Rattle.sk_text.specs.Characters.{belongs}
use Rattle.sk_text.specs.Words.{words}
use Rattle.sk_text.proofs.CuttingLemmas.{open_from, open_at, read_none, read_place, read_in, read_out, read_all}
use Rattle.sk_text.proofs.LayoutLemmas.{words-AreWords}
use Rattle.sk_text.proofs.WordLaws.{words-IsWithin, length-words}
use Rattle.sk_text.proofs.cutting.words.Goals as goal

pub chars-init : goal.chars-init
chars-init c = rw (c.chars-rest.ensures.rest, c.new-made.ensures) (read_none c.args.text.now c.utf8.text)

pub range-requires-clause-start_le_end : goal.range-requires-clause-start_le_end
range-requires-clause-start_le_end c = let ends = c.chars.invariant.1.ends in omega (arith, ends)

pub range-requires-clause-start_boundary : goal.range-requires-clause-start_boundary
range-requires-clause-start_boundary c = λ _. open_from _ _ _ _ _ c.chars.invariant.1 c.chars.invariant.2.utf8

pub range-requires-clause-end_boundary : goal.range-requires-clause-end_boundary
range-requires-clause-end_boundary c = open_at _ _ _ _ _ c.chars.invariant.1 c.chars.invariant.2.utf8

pub end-requires : goal.end-requires
end-requires c = let place = c.chars.invariant.2.place in let count = c.chars.invariant.2.count in omega (arith, place, count)

pub chars-preserved-in_ok-number : goal.chars-preserved-in_ok-number
chars-preserved-in_ok-number c =
    let outside = ap (λ bs. belongs c.chars.after c.in-Some.c (chars bs)) (sym c.as_str-behind.ensures) ∙ sym (c.belongs.ensures c.is_word-in_word.ensures (chars c.as_str-behind.result.now) c.first_of.ensures) in
    let place = ap (λ bs. length c.args.text.now - length bs) c.as_str-behind.ensures ∙ read_place _ _ _ _ _ _ _ _ _ c.chars.invariant c.in-Some.ensures.steps.0 in
    rw (c.in_ok-number.ensures.made, c.in_ok-number.ensures.number, c.is_word-in_word.ensures, place)
    (read_out _ _ _ _ _ _ _ _ _ _ c.chars.invariant c.in-Some.ensures.steps.0 (outside ∙ c.if-not-belongs.true) c.range.ensures.value)

pub chars-preserved : goal.chars-preserved
chars-preserved c =
    let inside = ap (λ bs. belongs c.chars.after c.in-Some.c (chars bs)) (sym c.as_str-behind.ensures) ∙ sym (c.belongs.ensures c.is_word-in_word.ensures (chars c.as_str-behind.result.now) c.first_of.ensures) in
    let place = ap (λ bs. length c.args.text.now - length bs) c.as_str-behind.ensures ∙ read_place _ _ _ _ _ _ _ _ _ c.chars.invariant c.in-Some.ensures.steps.0 in
    rw (c.is_word-in_word.ensures, place) (read_in _ _ _ _ _ _ _ _ _ c.chars.invariant c.in-Some.ensures.steps.0 (inside ∙ c.if-not-belongs.false))

pub range-requires-2-clause-start_le_end : goal.range-requires-2-clause-start_le_end
range-requires-2-clause-start_le_end c = let ends = c.chars.invariant.1.ends in omega (arith, ends)

pub range-requires-2-clause-start_boundary : goal.range-requires-2-clause-start_boundary
range-requires-2-clause-start_boundary c = λ _. open_from _ _ _ _ _ c.chars.invariant.1 c.chars.invariant.2.utf8

pub range-requires-2-clause-end_boundary : goal.range-requires-2-clause-end_boundary
range-requires-2-clause-end_boundary c = open_at _ _ _ _ _ c.chars.invariant.1 c.chars.invariant.2.utf8

pub end-requires-2 : goal.end-requires-2
end-requires-2 c = let place = c.chars.invariant.2.place in let count = c.chars.invariant.2.count in omega (arith, place, count)

-- what is made at the end
made : (c : goal.In_ok-end) → c.end-2.new.made ≡ words c.args.text.now
made c = rw c.in_ok-end.ensures.made (read_all _ _ _ _ _ _ _ _ c.chars.invariant c.in_default.ensures.steps.0.0 c.range-2.ensures.value)

pub returns-clause-value : goal.returns-clause-value
returns-clause-value c = made c

pub returns-clause-maximal : goal.returns-clause-maximal
returns-clause-maximal c = rw (made c) (words-AreWords c.args.text.now)

pub returns-clause-within : goal.returns-clause-within
returns-clause-within c = rw (made c) (words-IsWithin c.args.text.now c.utf8.text)

pub returns-clause-count : goal.returns-clause-count
returns-clause-count c = rw (made c) (length-words c.args.text.now c.utf8.text)
