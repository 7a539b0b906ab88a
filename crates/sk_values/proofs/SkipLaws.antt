-- Entries that are passed over because their values come behind the last one wanted.
use Rattle.std.proofs.Common.{◌≡◌, ℕ, ◌+◌, ◌-◌, ◌<◌, ◌≤◌, ◌^◌, nat_lt, Bool, true, false, not, List, [], ◌∷◌, ◌++◌, length, drop, get_or, is_some, Option, None, Some, if◌then◌else◌, refl, sym, ap, subst, ◌∙◌, arith, true≢false, append_assoc}
use Rattle.std.specs.List.{AllByRecursion}
use Rattle.std.proofs.lemmas.Bool.{lt-leb, ltb-true}
use Rattle.std.proofs.lemmas.Bool.Decides.{nat_tests}
use Rattle.std.proofs.lemmas.List.{drop_all, append-nil, length-append, length-drop}
use Rattle.std.proofs.lemmas.List.Elements.{filter-append}
use Rattle.sk_sorted.specs.Places.{id_at}
use Rattle.sk_sorted.specs.Runs.{flat, IsPlace}
use Rattle.sk_sorted.proofs.RunPlaceLaws.{place_drop, place_on}
use Rattle.sk_model.specs.Ranges.{is_within}
use Rattle.sk_values.specs.Numbers.{IsNumber, IsBetween, IsLeast, IsGreatest}
use Rattle.sk_values.specs.SlotValues.{SlotValues, SlotRuns, value_at_place}
use Rattle.sk_values.specs.RangeCursor.{in_range, ahead, IsHeadAt}
use Rattle.sk_values.specs.declared.span.Span.{Span}
use Rattle.sk_values.specs.declared.edge.Spans.{Spans}
use Rattle.sk_values.specs.Behind.{is_behind, Skips, greatest_in, in_span, AreSpans, AreBehind}
use Rattle.sk_values.specs.Zones.{AreAmong}
use Rattle.sk_values.proofs.NumberLaws.{least-number, greatest-number, both_decide}
use Rattle.sk_values.proofs.RangeLaws.{in_range-here, in_range-past}
use Rattle.sk_values.proofs.CursorLemmas.{place_before, here, next_place, ended}
use Rattle.sk_values.proofs.ValueLaws.{drop-entry}

-- ---- numbers

pub above_behind : (last n : ℕ) (v w : List ℕ) → IsNumber last v → IsNumber n w → last < n → is_behind false v w ≡ true
above_behind last n v w is number lt = ap not (greatest-number last v is n w number ∙ lt-leb n last lt)

pub below_behind : (last n : ℕ) (v w : List ℕ) → IsNumber last v → IsNumber n w → n < last → is_behind true v w ≡ true
below_behind last n v w is number lt = ap not (least-number last v is n w number ∙ lt-leb last n lt)

-- ---- spans of numbers

-- both ends of a span
span_ends : (s : Span) (n : ℕ) → in_span s n ≡ true → (s.least ≤ n) × (n ≤ greatest_in s)
span_ends s n is = (grind (arith, nat_tests, is), grind (arith, nat_tests, is))

module _ (number : ℕ) (reverse : Bool) (lo hi : Option (List ℕ)) (s : Spans) (are : AreSpans number reverse lo hi s) (n : ℕ) where
  -- what is wanted lies in the range
  pub wanted_within : in_span s.wanted n ≡ true → in_span s.range n ≡ true
  wanted_within wanted = let ends = span_ends s.wanted n wanted in grind (arith, nat_tests, ends.0, ends.1, are.from, are.to)

  -- what lies in the range and is not wanted comes behind the edge
  pub unwanted_behind : in_span s.range n ≡ true → in_span s.wanted n ≡ false → (last v : List ℕ) → IsNumber number last → IsNumber n v → is_behind reverse last v ≡ true
  unwanted_behind within unwanted last v edge is = by (nat_lt n s.wanted.least) refl
    where
      ends : (s.range.least ≤ n) × (n ≤ greatest_in s.range)
      ends = span_ends s.range n within

      by : (b : Bool) → nat_lt n s.wanted.least ≡ b → is_behind reverse last v ≡ true
      by true lt = let so = are.below n ends.0 (ltb-true n s.wanted.least lt) in subst (λ b. is_behind b last v ≡ true) (sym so.0) (below_behind number n last v edge is so.1)
      by false lt = let so = are.above n ends.1 (grind (arith, nat_tests, lt, unwanted)) in subst (λ b. is_behind b last v ≡ true) (sym so.0) (above_behind number n last v edge is so.1)

-- ---- what was passed over

all_both : {X : Type 0} (P : X → Type 0) (xs ys : List X) → AllByRecursion P xs → AllByRecursion P ys → AllByRecursion P (xs ++ ys)
all_both P [] ys h g = g
all_both P (x ∷ xs) ys h g = (h.0, all_both P xs ys h.1 g)

module _ (reverse : Bool) (last : List ℕ) where
  abbrev Behind : ℕ × List ℕ → Type 0
  Behind e = is_behind reverse last e.1 ≡ true

  pub skips_none : (es : SlotValues) → Skips reverse last 0 es es
  skips_none es = record { passed = []; is = refl; counted = refl; behind = tt }

  pub skips_then : (n m : ℕ) (xs ys zs : SlotValues) → Skips reverse last n xs ys → Skips reverse last m ys zs → Skips reverse last (n + m) xs zs
  skips_then n m xs ys zs one two =
      let both : length (one.passed ++ two.passed) ≡ length one.passed + length two.passed = length-append one.passed two.passed in
      record {
        passed = one.passed ++ two.passed;
        is = one.is ∙ ap (λ (es : SlotValues). one.passed ++ es) two.is ∙ sym (append_assoc one.passed two.passed zs);
        counted = omega (arith, both, one.counted, two.counted);
        behind = all_both Behind one.passed two.passed one.behind two.behind;
      }

  pub skips_before : (n : ℕ) (xs ys rest : SlotValues) → Skips reverse last n xs ys → Skips reverse last n (xs ++ rest) (ys ++ rest)
  skips_before n xs ys rest one = record {
    passed = one.passed;
    is = ap (λ (es : SlotValues). es ++ rest) one.is ∙ append_assoc one.passed ys rest;
    counted = one.counted;
    behind = one.behind;
  }

  module _ (lo hi : Option (List ℕ)) where
    -- one entry, in the range or not
    pub skips_one : (es : SlotValues) (read : ℕ) (b : Bool) → read < length es → is_within lo hi (value_at_place es read) ≡ b → (b ≡ true → is_behind reverse last (value_at_place es read) ≡ true)
        → Skips reverse last (if b then 1 else 0) (in_range lo hi (drop read es)) (in_range lo hi (drop (read + 1) es))
    skips_one es read true lt inside behind = record {
      passed = (id_at es read, value_at_place es read) ∷ [];
      is = ap (in_range lo hi) (drop-entry es read lt) ∙ in_range-here lo hi (id_at es read, value_at_place es read) (drop (read + 1) es) inside;
      counted = refl;
      behind = (behind refl, tt);
    }
    skips_one es read false lt outside behind = record { passed = []; is = sym (in_range-past lo hi es read lt outside); counted = refl; behind = tt }

    -- the same in the whole as in a piece
    pub skips_whole : (runs : SlotRuns) (i read passed next passed2 n : ℕ) → i < length runs → IsPlace runs i read passed → IsPlace runs i next passed2
        → Skips reverse last n (in_range lo hi (drop read (get_or runs i []))) (in_range lo hi (drop next (get_or runs i [])))
        → Skips reverse last n (in_range lo hi (drop passed (flat runs))) (in_range lo hi (drop passed2 (flat runs)))
    skips_whole runs i read passed next passed2 n lt at later skips =
        let run : SlotValues = get_or runs i [] in
        let rest : SlotValues = flat (drop (i + 1) runs) in
        let whole : (k p : ℕ) → IsPlace runs i k p → in_range lo hi (drop k run) ++ in_range lo hi rest ≡ in_range lo hi (drop p (flat runs))
        = λ k p on. sym (ap (in_range lo hi) (place_drop runs i k p lt on) ∙ filter-append (λ (e : ℕ × List ℕ). is_within lo hi e.1) (drop k run) rest) in
        subst (λ (es : SlotValues). Skips reverse last n es (in_range lo hi (drop passed2 (flat runs)))) (whole read passed at)
        (subst (λ (es : SlotValues). Skips reverse last n (in_range lo hi (drop read run) ++ in_range lo hi rest) es) (whole next passed2 later)
        (skips_before n (in_range lo hi (drop read run)) (in_range lo hi (drop next run)) (in_range lo hi rest) skips))

-- ---- what a reading in a piece passed over

module _ (reverse : Bool) (last : List ℕ) (lo hi : Option (List ℕ)) (runs : SlotRuns) (i read passed : ℕ) (lt : i < length runs) (at : IsPlace runs i read passed)
    (run : SlotValues) (is : run ≡ get_or runs i []) (head : Option ℕ) (next : ℕ) (onward : read ≤ next) (on : IsHeadAt lo hi head next run) (n : ℕ)
    (skips : Skips reverse last n (in_range lo hi (drop read run)) (in_range lo hi (ahead head next run))) where
  later : IsPlace runs i next (passed + (next - read))
  later = next_place lo hi runs i read passed lt at run is head next onward on

  skips_here : Skips reverse last n (in_range lo hi (drop read (get_or runs i []))) (in_range lo hi (ahead head next (get_or runs i [])))
  skips_here = subst (λ (es : SlotValues). Skips reverse last n (in_range lo hi (drop read es)) (in_range lo hi (ahead head next es))) is skips

  -- up to a stop
  pub skips_stop : is_some head ≡ true → Skips reverse last n (in_range lo hi (drop passed (flat runs))) (in_range lo hi (ahead head (passed + (next - read)) (flat runs)))
  skips_stop some = by head some (here lo hi runs i read passed lt at run is head next onward on) skips_here
    where
      by : (o : Option ℕ) → is_some o ≡ true → IsHeadAt lo hi o next (get_or runs i []) → Skips reverse last n (in_range lo hi (drop read (get_or runs i []))) (in_range lo hi (ahead o next (get_or runs i [])))
          → Skips reverse last n (in_range lo hi (drop passed (flat runs))) (in_range lo hi (ahead o (passed + (next - read)) (flat runs)))
      by None e stop s = absurd (true≢false (sym e))
      by (Some id) e stop s = skips_whole reverse last lo hi runs i read passed (next - 1) (passed + (next - read) - 1) n lt at (place_before runs i next (passed + (next - read)) stop.begun later) s

  -- to the end of the piece
  pub skips_on : is_some head ≡ false → Skips reverse last n (in_range lo hi (drop passed (flat runs))) (in_range lo hi (drop (passed + (next - read)) (flat runs)))
  skips_on none =
      skips_whole reverse last lo hi runs i read passed next (passed + (next - read)) n lt at later
      (subst (λ (es : SlotValues). Skips reverse last n (in_range lo hi (drop read (get_or runs i []))) (in_range lo hi es)) (sym (drop_all next (get_or runs i []) (let end = ended lo hi runs i read passed lt at run is head next onward on none in omega (arith, end))))
      (by head none skips_here))
    where
      by : (o : Option ℕ) → is_some o ≡ false → Skips reverse last n (in_range lo hi (drop read (get_or runs i []))) (in_range lo hi (ahead o next (get_or runs i [])))
          → Skips reverse last n (in_range lo hi (drop read (get_or runs i []))) (in_range lo hi [])
      by None e s = s
      by (Some id) e s = absurd (true≢false e)

-- ---- a piece that lies in the range and behind the edge

module _ (lo hi : Option (List ℕ)) (least greatest : ℕ) (low : IsLeast lo least) (high : IsGreatest hi greatest) (number : ℕ) (s : Span) (from : least ≤ s.least) (to : greatest_in s ≤ greatest) (fits : greatest_in s < 2 ^ 64) where
  in_both : (v : List ℕ) → IsBetween s.least (greatest_in s) v → is_within lo hi v ≡ true
  in_both v is = sym (both_decide lo hi least greatest is.number v low high is.is) ∙ grind (arith, nat_tests, from, to, is.from, is.to)

  -- the numbers above the edge, and in reverse those below it
  pub above_edge : number < s.least → AreBehind number false lo hi s
  above_edge above = record {
    inside = in_both;
    behind = λ last v edge is. above_behind number is.number last v edge is.is (omega (arith, above, is.from));
    fits = fits;
    few = omega (arith, above, fits);
  }

  pub below_edge : greatest_in s < number → number < 2 ^ 64 → AreBehind number true lo hi s
  below_edge below small = record {
    inside = in_both;
    behind = λ last v edge is. below_behind number is.number last v edge is.is (omega (arith, below, is.to));
    fits = fits;
    few = omega (arith, below, small);
  }

module _ (number : ℕ) (reverse : Bool) (lo hi : Option (List ℕ)) (s : Span) (are : AreBehind number reverse lo hi s) where
  -- all of its values lie in the range
  among_all : (es : SlotValues) → AreAmong s es → in_range lo hi es ≡ es
  among_all [] among = refl
  among_all (e ∷ es) among = in_range-here lo hi e es (are.inside e.1 among.0) ∙ ap (λ (r : SlotValues). e ∷ r) (among_all es among.1)

  among_comes : (last : List ℕ) (es : SlotValues) → IsNumber number last → AreAmong s es → AllByRecursion (λ e. is_behind reverse last e.1 ≡ true) es
  among_comes last [] edge among = tt
  among_comes last (e ∷ es) edge among = (are.behind last e.1 edge among.0, among_comes last es edge among.1)

  among_skips : (last : List ℕ) (es : SlotValues) → IsNumber number last → AreAmong s es → Skips reverse last (length es) (in_range lo hi es) []
  among_skips last es edge among =
      subst (λ (r : SlotValues). Skips reverse last (length es) r []) (sym (among_all es among))
      (record { passed = es; is = sym (append-nil es); counted = refl; behind = among_comes last es edge among })

  -- the front of the next piece is behind so many of them
  skips_piece : (last : List ℕ) (runs : SlotRuns) (i read passed : ℕ) → IsNumber number last → i < length runs → IsPlace runs i read passed → AreAmong s (drop read (get_or runs i []))
      → Skips reverse last (length (get_or runs i []) - read) (in_range lo hi (drop passed (flat runs))) (in_range lo hi (drop (passed + (length (get_or runs i []) - read)) (flat runs)))
  skips_piece last runs i read passed edge lt at among =
      let run : SlotValues = get_or runs i [] in
      let count : length (drop read run) ≡ length run - read = length-drop read run in
      let end : IsPlace runs i (length run) (passed + (length run - read)) = place_on runs i read passed (length run) at at.within (omega arith) in
      let none : [] ≡ in_range lo hi (drop (length run) run) = sym (ap (in_range lo hi) (drop_all (length run) run (omega arith))) in
      skips_whole reverse last lo hi runs i read passed (length run) (passed + (length run - read)) (length run - read) lt at end
      (subst (λ (es : SlotValues). Skips reverse last (length run - read) (in_range lo hi (drop read run)) es) none
      (subst (λ n. Skips reverse last n (in_range lo hi (drop read run)) []) count (among_skips last (drop read run) edge among)))

  pub skips_next : (last : List ℕ) (runs : SlotRuns) (i read passed next : ℕ) → IsNumber number last → i < length runs → IsPlace runs i read passed → AreAmong s (drop read (get_or runs i []))
      → next ≡ passed + (length (get_or runs i []) - read) → Skips reverse last (next - passed) (in_range lo hi (drop passed (flat runs))) (in_range lo hi (drop next (flat runs)))
  skips_next last runs i read passed next edge lt at among e =
      let count : length (get_or runs i []) - read ≡ next - passed = omega (arith, e) in
      subst (λ n. Skips reverse last n (in_range lo hi (drop passed (flat runs))) (in_range lo hi (drop next (flat runs)))) count
      (subst (λ p. Skips reverse last (length (get_or runs i []) - read) (in_range lo hi (drop passed (flat runs))) (in_range lo hi (drop p (flat runs)))) (sym e)
      (skips_piece last runs i read passed edge lt at among))

-- one entry counts as one at the most
pub at_most_one : (b : Bool) (n : ℕ) → n ≡ (if b then 1 else 0) → n ≤ 1
at_most_one true n e = omega (arith, e)
at_most_one false n e = omega (arith, e)
