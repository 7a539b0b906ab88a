-- Turns of one search, behind each other.
use Rattle.std.proofs.Common.{◌≡◌, ◌≤◌, ◌<◌, ◌+◌, ℕ, suc, zero, Bool, true, false, if◌then◌else◌, refl, sym, ap, ◌∙◌, arith, true≢false}
use Rattle.sk_report.specs.Flights.{Open, SeeksSame, Turned}
use Rattle.sk_match.specs.declared.open_search.Turn.{Turn}
use Rattle.sk_match.specs.declared.open_search.Turn.TheVariants.{More, Done}
use Rattle.sk_flight.specs.Kept.{Moves, Made}
use Rattle.sk_flight.specs.Told.{was_done}

pub seeks_on : (old now next : Open) → SeeksSame old now → SeeksSame now next → SeeksSame old next
seeks_on old now next one more = record { paging = more.paging ∙ one.paging; query = more.query ∙ one.query; documents = more.documents ∙ one.documents }

-- a turn is done where its search is
pub done_from : (b : Bool) (turn : Turn) → turn ≡ (if b then Done else More) → turn ≡ Done → b ≡ true
done_from true turn is done = refl
done_from false turn is done = absurd (true≢false (ap was_done (sym done ∙ is)))

-- and one that moves on was not done
pub going_from : (was b : Bool) (turn : Turn) → turn ≡ (if b then Done else More) → turn ≡ More → (was ≡ true → b ≡ true) → was ≡ false
going_from false b turn is more ended = refl
going_from true b turn is more ended = absurd (true≢false (ap was_done (sym (is ∙ ap (λ b. if b then Done else More) (ended refl)) ∙ more)))

pub made_none : (old : Open) → Made 0 old old
made_none old = record {
  seeks = record { paging = refl; query = refl; documents = refl };
  counted = omega arith;
  idle = λ _. refl;
  going = λ few. absurd (omega (arith, few));
  later = omega arith;
}

-- one more that moved on
pub made_more : (made : ℕ) (old now next : Open) → Made made old now → Moves now next More → Made (made + 1) old next
made_more made old now next so moves = record {
  seeks = seeks_on old now next so.seeks moves.seeks;
  counted = let before = so.counted in let one = moves.comes.0 in omega (arith, before, one);
  idle = λ none. absurd (omega (arith, none));
  going = λ _. (was_going made so, moves.comes.1);
  later = let before = so.later in let more = moves.later in omega (arith, before, more);
}
  where
    was_going : (n : ℕ) → Made n old now → old.done ≡ false
    was_going zero none = sym (ap (λ (s : Open). s.done) (none.idle refl)) ∙ moves.comes.2
    was_going (suc n) some = (some.going (omega arith)).0

module _ (May : Open → Type 0) (times : ℕ) (old now : Open) where
  -- one that was done, before all were made
  pub turned_done : (made : ℕ) (next : Open) → Made made old now → Moves now next Done → made < times → May next → Turned May times old next
  turned_done made next so moves few may = record {
    seeks = seeks_on old now next so.seeks moves.seeks;
    made = made;
    counted = moves.comes.0 ∙ so.counted;
    all = λ going. absurd (true≢false (sym moves.comes.1 ∙ going));
    fewer = λ _. few;
    after = λ ended. (none_made made so ended, moves.comes.1);
    idle = λ none. moves.comes.2 ∙ ap (λ (s : Open). s.spent) (so.idle none);
    later = let before = so.later in let more = moves.later in omega (arith, before, more);
    may = may;
  }
    where
      none_made : (n : ℕ) → Made n old now → old.done ≡ true → n ≡ 0
      none_made zero none ended = refl
      none_made (suc n) some ended = absurd (true≢false (sym ended ∙ (some.going (omega arith)).0))

  -- all of them moved on
  pub turned_all : 1 ≤ times → Made times old now → May now → Turned May times old now
  turned_all some so may = record {
    seeks = so.seeks;
    made = times;
    counted = so.counted;
    all = λ _. refl;
    fewer = λ ended. absurd (true≢false (sym ended ∙ (so.going some).1));
    after = λ ended. absurd (true≢false (sym ended ∙ (so.going some).0));
    idle = λ none. absurd (omega (arith, none, some));
    later = so.later;
    may = may;
  }
