-- How far a run over lines has come.
use Rattle.std.proofs.Common.{◌≡◌, ◌<◌, ◌≤◌, ◌+◌, ◌^◌, ℕ, Bool, true, false, ◌||◌, ◌⊎◌, inl, inr, List, [], ◌∷◌, ◌++◌, length, Option, Some, None, Ok, sum_by, flat_map, refl, sym, ap, ◌∙◌, subst, arith, append_assoc, append-nil, IsTrue, ◌↔◌, true≢false}
use Rattle.std.specs.List.{list_any}
use Rattle.std.proofs.KnownBytes.{Appends-nil}
use Rattle.std.proofs.lemmas.List.Sums.{sum_by-append}
use Rattle.std.proofs.lemmas.List.Folds.{list_any-append}
use Rattle.std.proofs.lemmas.Grind.{flat_map-append}
use Rattle.sk_io.specs.declared.line.Line.{Line}
use Rattle.sk_io.specs.declared.line.Line.TheVariants.{Whole, TooLong}
use Rattle.sk_io.specs.declared.line.LineStop.{LineStop}
use Rattle.sk_io.specs.Causes.{Rose}
use Rattle.sk_io.specs.Fronts.{AppendsPrefix}
use Rattle.sk_io.specs.Reading.{Reader, pending, StreamIs, line_outcome}
use Rattle.sk_io.specs.Answers.{Charged, Ends, LineOf, LongLineOf, OpenLineOf, Stops, ReadsOn}
use Rattle.sk_run.specs.declared.response.Response.{Response}
use Rattle.sk_run.specs.declared.response.Printing.{Printing}
use Rattle.sk_run.specs.Responses.{text_under, is_refusal, reads_of}
use Rattle.sk_run.specs.Lines.{LineByLine, stop, line, IsReached, Answered, AnsweredLine}
use Rattle.sk_run.specs.Ends.{EndsLine, PutsFront, AnswersTaken, AnswersFirst, AnswersThrough, TakesAll}
use Rattle.sk_run.specs.Waiting.{MovesOut}
use Rattle.sk_run.proofs.WaitingLemmas.{moves_all, moves_more, moves_text, moves_prefix, puts_front}

-- as many bytes as are taken off the room were taken of the bytes
pub record TakenSoFar (bytes : List ℕ) (reader : Reader) (left : Option (List ℕ)) : Type 0 where
  pub stream : List ℕ
  pub is : StreamIs reader left stream
  pub taken : reader.room + length bytes ≡ 2 ^ 40 + length is.rest

-- the bytes of the lines with one line more
record LinesMore (bytes lines line after : List ℕ) (reader : Reader) : Type 0 where
  lines_now : List ℕ
  behind : bytes ≡ lines_now ++ after
  line_end : EndsLine lines_now ⊎ (reader.ended ≡ true)

lines_more : (bytes lines text : List ℕ) (reader : Reader) (left : Option (List ℕ)) (s : List ℕ) → bytes ≡ lines ++ s → (first : LineOf text reader left s) → LinesMore bytes lines text first.after reader
lines_more bytes lines text reader left s behind first = by_end first.is_line.is
  where
    by_end : ((s ≡ text ++ 10 ∷ first.after) ⊎ ((s ≡ text) × (0 < length text) × (first.after ≡ []))) → LinesMore bytes lines text first.after reader
    by_end (inl e) = record {
      lines_now = (lines ++ text) ++ 10 ∷ [];
      behind = behind ∙ ap (λ (w : List ℕ). lines ++ w) e ∙ sym (append_assoc lines text (10 ∷ first.after)) ∙ sym (append_assoc (lines ++ text) (10 ∷ []) first.after);
      line_end = inl (inr (lines ++ text, refl));
    }
    by_end (inr e) = record {
      lines_now = lines ++ text;
      behind = behind ∙ ap (λ (w : List ℕ). lines ++ w) e.0 ∙ sym (append-nil (lines ++ text)) ∙ ap (λ (w : List ℕ). (lines ++ text) ++ w) (sym e.2);
      line_end = inr (first.last e.0);
    }

-- what follows the front of a text is what the source has left
record EndsIn (left : Option (List ℕ)) (s : List ℕ) : Type 0 where
  front : List ℕ
  rest : List ℕ
  is : s ≡ front ++ rest
  told : left ≡ Some rest

behind_line : (text : List ℕ) (reader : Reader) (left : Option (List ℕ)) (s : List ℕ) → LineOf text reader left s → EndsIn left s
behind_line text reader left s first = by_end first.is_line.is
  where
    after_is : first.after ≡ pending reader ++ first.goes_on.rest
    after_is = first.goes_on.is

    by_end : ((s ≡ text ++ 10 ∷ first.after) ⊎ ((s ≡ text) × (0 < length text) × (first.after ≡ []))) → EndsIn left s
    by_end (inl e) = record {
      front = text ++ 10 ∷ pending reader;
      rest = first.goes_on.rest;
      is = e ∙ ap (λ (w : List ℕ). text ++ 10 ∷ w) after_is ∙ sym (append_assoc text (10 ∷ pending reader) first.goes_on.rest);
      told = first.goes_on.told;
    }
    by_end (inr e) = record {
      front = text ++ pending reader;
      rest = first.goes_on.rest;
      is = e.0 ∙ sym (append-nil text) ∙ ap (λ (w : List ℕ). text ++ w) (sym e.2 ∙ after_is) ∙ sym (append_assoc text (pending reader) first.goes_on.rest);
      told = first.goes_on.told;
    }

read_on : (reader reader' : Reader) (left left' : Option (List ℕ)) (l : Line) (s : List ℕ) → StreamIs reader left s → ReadsOn reader left reader' left' (line_outcome (Ok (Some l))) → EndsIn left' s
read_on reader reader' left left' (Whole text) s is reads = behind_line text.now reader' left' s (reads.first s is)
read_on reader reader' left left' TooLong s is reads =
    let long : LongLineOf reader' left' s = reads.first s is in
    behind_line long.line reader' left' s long.first

texts-push : {R : Type 0} (text : R → List ℕ) (answers : List R) (answer : R) → flat_map text (answers ++ answer ∷ []) ≡ flat_map text answers ++ text answer
texts-push text answers answer = flat_map-append text answers (answer ∷ []) ∙ ap (λ (w : List ℕ). flat_map text answers ++ w) (append-nil (text answer))

-- what is not held is not said to be
pub not_held : (b : Bool) (P : Type 0) → IsTrue b ↔ P → (P → ⊥) → b ≡ false
not_held true P h none = absurd (none (h.0 refl))
not_held false P h none = refl

-- at first nothing was taken
pub taken_none : (bytes : List ℕ) (reader : Reader) (left : Option (List ℕ)) → reader ≡ record { held = []; given = 0; room = 2 ^ 40; stopped = None; ended = false } → left ≡ Some bytes → TakenSoFar bytes reader left
taken_none bytes reader left new told = record {
  stream = bytes;
  is = record { rest = bytes; told = told; is = ap (λ (r : Reader). pending r ++ bytes) (sym new); at_end = λ e. absurd (true≢false (sym e ∙ ap (λ (r : Reader). r.ended) new)) };
  taken = ap (λ (r : Reader). r.room + length bytes) new;
}

taken_on : (bytes text : List ℕ) (reader reader' : Reader) (left left' : Option (List ℕ)) → (so : TakenSoFar bytes reader left) → LineOf text reader' left' so.stream → Charged reader left reader' left' → TakenSoFar bytes reader' left'
taken_on bytes text reader reader' left left' so first charged =
    let paid : reader'.room + length so.is.rest ≡ reader.room + length first.goes_on.rest = charged so.is.rest first.goes_on.rest so.is.told first.goes_on.told in
    record { stream = first.after; is = first.goes_on; taken = omega (arith, paid, so.taken) }

-- what a line took
pub taken_more : (bytes : List ℕ) (reader reader' : Reader) (left left' : Option (List ℕ)) (l : Line) → TakenSoFar bytes reader left → ReadsOn reader left reader' left' (line_outcome (Ok (Some l))) → TakenSoFar bytes reader' left'
taken_more bytes reader reader' left left' (Whole text) so reads = taken_on bytes text.now reader reader' left left' so (reads.first so.stream so.is) reads.charged
taken_more bytes reader reader' left left' TooLong so reads =
    let long : LongLineOf reader' left' so.stream = reads.first so.stream so.is in
    taken_on bytes long.line reader reader' left left' so long.first reads.charged

-- the source stopped at the limit
pub full : (bytes : List ℕ) (reader reader' : Reader) (left left' : Option (List ℕ)) → TakenSoFar bytes reader left → Stops reader left reader' left' LineStop.TooMuch → TakesAll (2 ^ 40) bytes left'
full bytes reader reader' left left' so stops =
    let tail : OpenLineOf left' so.stream = stops.open_line so.stream so.is in
    let paid : reader'.room + length so.is.rest ≡ reader.room + length tail.rest = stops.charged so.is.rest tail.rest so.is.told tail.told in
    let none : reader'.room ≡ 0 = stops.full refl in
    record { rest = tail.rest; left = tail.told; taken = omega (arith, paid, none, so.taken) }

-- a count that rose in a call rose since the start
pub rose_since : (start now later : ℕ) → start ≤ now → Rose now later → Rose start later
rose_since start now later before (inl rose) = inl (omega (arith, rose))
rose_since start now later before (inr full) = inr full

-- a reader that had not stopped failed now
pub failed_now : (before now : ℕ) (stop_before : Option LineStop) → stop_before ≡ None → Rose before now ⊎ (stop_before ≡ Some LineStop.Failed) → Rose before now
failed_now before now stop_before none (inl rose) = rose
failed_now before now stop_before none (inr again) = absurd (never (sym none ∙ again))
  where
    never : None ≡ Some LineStop.Failed → ⊥
    never e = cc

-- after a line a reader has not stopped
pub still_goes : (reader reader' : Reader) (left left' : Option (List ℕ)) (l : Line) → ReadsOn reader left reader' left' (line_outcome (Ok (Some l))) → reader'.stopped ≡ None
still_goes reader reader' left left' (Whole text) reads = reads.goes
still_goes reader reader' left left' TooLong reads = reads.goes

pub or-false : (b : Bool) → (b || false) ≡ b
or-false true = refl
or-false false = refl

pub or-assoc : (a b c : Bool) → ((a || b) || c) ≡ (a || (b || c))
or-assoc true b c = refl
or-assoc false b c = refl

-- Where answers are printed so.
module _ (printing : Printing) where
  -- The answers so far were put, but for what waits, and counted; whether a line was refused before them, or by them, is known.
  pub record IsPut (answers : List Response) (waiting : List ℕ) (held held_now : Option (List ℕ)) (refused_before refused : Bool) (begun now : ℕ) : Type 0 where
    pub put : MovesOut (flat_map (text_under printing) answers) waiting held held_now
    pub refusals : refused ≡ (refused_before || list_any is_refusal answers)
    pub paid : now ≡ begun + sum_by reads_of answers

  pub none_put : (waiting : List ℕ) (held : Option (List ℕ)) (refused : Bool) (begun : ℕ) → waiting ≡ [] → IsPut [] waiting held held refused refused begun begun
  none_put waiting held refused begun none = record { put = moves_all [] waiting held held (Appends-nil held) none; refusals = sym (or-false refused); paid = omega arith }

  -- One answer more joined what waits.
  pub put_more : (answers : List Response) (waiting waiting' : List ℕ) (held held_now held' : Option (List ℕ)) (refused_before refused refused' : Bool) (begun now now' : ℕ) (answer : Response)
      → IsPut answers waiting held held_now refused_before refused begun now → MovesOut (waiting ++ text_under printing answer) waiting' held_now held' → refused' ≡ (refused || is_refusal answer) → now' ≡ now + reads_of answer
      → IsPut (answers ++ answer ∷ []) waiting' held held' refused_before refused' begun now'
  put_more answers waiting waiting' held held_now held' refused_before refused refused' begun now now' answer so moves refusal paid = record {
    put =
        subst (λ w. MovesOut w waiting' held held') (sym (texts-push (text_under printing) answers answer))
        (moves_more (flat_map (text_under printing) answers) waiting waiting' (text_under printing answer) held held_now held' so.put moves);
    refusals =
        refusal ∙ ap (λ b. b || is_refusal answer) so.refusals ∙ or-assoc refused_before (list_any is_refusal answers) (is_refusal answer)
        ∙ ap (λ b. refused_before || b) (sym (list_any-append is_refusal answers (answer ∷ []) ∙ ap (λ b. list_any is_refusal answers || b) (or-false (is_refusal answer))));
    paid = omega (arith, paid, so.paid, sum_by-append reads_of answers (answer ∷ []));
  }

  -- A front of what waits and of one answer more was put.
  pub put_in_part : (answers : List Response) (waiting : List ℕ) (held held_now held' : Option (List ℕ)) (answer : Response)
      → MovesOut (flat_map (text_under printing) answers) waiting held held_now → AppendsPrefix held_now held' (waiting ++ text_under printing answer) → PutsFront (text_under printing) (answers ++ answer ∷ []) held held'
  put_in_part answers waiting held held_now held' answer before prefix =
      puts_front (text_under printing) (answers ++ answer ∷ []) held held'
      (subst (λ w. AppendsPrefix held held' w) (sym (texts-push (text_under printing) answers answer))
      (moves_prefix (flat_map (text_under printing) answers ++ text_under printing answer) (waiting ++ text_under printing answer) held held_now held' (moves_text (flat_map (text_under printing) answers) waiting (text_under printing answer) held held_now before) prefix))

-- Over an answerer that stands for states, where a line may be answered so.
module _ {W S R : Type 0} (Stands : W → S → Type 0) (Answers : S → List ℕ → R → S → Type 0) where
  -- From a state on the first lines of the bytes were answered, and the others are to come.
  pub record Reached (start : S) (bytes : List ℕ) (answers : List R) (reader : Reader) (left : Option (List ℕ)) (answerer : W) : Type 0 where
    pub state : S
    pub lines : List ℕ
    pub stream : List ℕ
    pub behind : bytes ≡ lines ++ stream
    pub line_end : EndsLine lines ⊎ (reader.ended ≡ true)
    pub goes_on : (more : List R) (last : S) (rest : List ℕ) → LineByLine Answers state stream more last rest → LineByLine Answers start bytes (answers ++ more) last rest
    pub is : StreamIs reader left stream
    pub at : Stands answerer state

  -- At first no line was answered.
  pub begins : (start : S) (bytes : List ℕ) (reader : Reader) (left : Option (List ℕ)) (answerer : W)
      → reader ≡ record { held = []; given = 0; room = 2 ^ 40; stopped = None; ended = false } → left ≡ Some bytes → Stands answerer start
      → Reached start bytes [] reader left answerer
  begins start bytes reader left answerer new told at = record {
    state = start;
    lines = [];
    stream = bytes;
    behind = refl;
    line_end = inl (inl refl);
    goes_on = λ more last rest runs. runs;
    is = record { rest = bytes; told = told; is = ap (λ (r : Reader). pending r ++ bytes) (sym new); at_end = λ e. absurd (true≢false (sym e ∙ ap (λ (r : Reader). r.ended) new)) };
    at = at;
  }

  -- The answer of one line more.
  one_more : (start : S) (bytes : List ℕ) (answers : List R) (reader reader' : Reader) (left left' : Option (List ℕ)) (answerer answerer' : W) (answer : R) (text : List ℕ)
      → (so : Reached start bytes answers reader left answerer) → (first : LineOf text reader' left' so.stream) → Answered Stands Answers answerer text answer answerer'
      → Reached start bytes (answers ++ answer ∷ []) reader' left' answerer'
  one_more start bytes answers reader reader' left left' answerer answerer' answer text so first answered =
      let met : IsReached Stands (Answers so.state text answer) answerer' = answered so.state so.at in
      let more : LinesMore bytes so.lines text first.after reader' = lines_more bytes so.lines text reader' left' so.stream so.behind first in
      record {
        state = met.next;
        lines = more.lines_now;
        stream = first.after;
        behind = more.behind;
        line_end = more.line_end;
        goes_on = λ more last rest runs.
            subst (λ all. LineByLine Answers start bytes all last rest) (sym (append_assoc answers (answer ∷ []) more)) (so.goes_on (answer ∷ more) last rest (line first.is_line met.allowed runs));
        is = first.goes_on;
        at = met.at;
      }

  pub reach_more : (start : S) (bytes : List ℕ) (answers : List R) (reader reader' : Reader) (left left' : Option (List ℕ)) (answerer answerer' : W) (answer : R) (l : Line)
      → Reached start bytes answers reader left answerer → ReadsOn reader left reader' left' (line_outcome (Ok (Some l))) → AnsweredLine Stands Answers answerer l answer answerer'
      → Reached start bytes (answers ++ answer ∷ []) reader' left' answerer'
  reach_more start bytes answers reader reader' left left' answerer answerer' answer (Whole text) so reads answered =
      one_more start bytes answers reader reader' left left' answerer answerer' answer text.now so (reads.first so.stream so.is) answered
  reach_more start bytes answers reader reader' left left' answerer answerer' answer TooLong so reads answered =
      let long : LongLineOf reader' left' so.stream = reads.first so.stream so.is in
      one_more start bytes answers reader reader' left left' answerer answerer' answer long.line so long.first (answered long.line long.long)

  -- What was answered so far, where a text splits into what was taken and what is left.
  stops_at : (start : S) (bytes : List ℕ) (answers : List R) (reader : Reader) (left : Option (List ℕ)) (answerer : W) (front rest : List ℕ)
      → (so : Reached start bytes answers reader left answerer) → so.stream ≡ front ++ rest → LineByLine Answers start bytes answers so.state (front ++ rest)
  stops_at start bytes answers reader left answerer front rest so is =
      subst (λ all. LineByLine Answers start bytes all so.state (front ++ rest)) (append-nil answers)
      (so.goes_on [] so.state (front ++ rest) (subst (λ s. LineByLine Answers so.state so.stream [] so.state s) is stop))

  -- Nothing more is answered: of the lines behind, what the reader holds is pending.
  pub first_ones : (start : S) (bytes : List ℕ) (answers : List R) (reader : Reader) (left : Option (List ℕ)) (answerer : W) → Reached start bytes answers reader left answerer → AnswersFirst Answers start bytes answers left
  first_ones start bytes answers reader left answerer so = record {
    last = so.state;
    pending = pending reader;
    rest = so.is.rest;
    runs = stops_at start bytes answers reader left answerer (pending reader) so.is.rest so so.is.is;
    left = so.is.told;
  }

  -- The line that was read is not answered.
  pub lost : (start : S) (bytes : List ℕ) (answers : List R) (reader reader' : Reader) (left left' : Option (List ℕ)) (answerer : W) (l : Line)
      → Reached start bytes answers reader left answerer → ReadsOn reader left reader' left' (line_outcome (Ok (Some l))) → AnswersFirst Answers start bytes answers left'
  lost start bytes answers reader reader' left left' answerer l so reads =
      let ends : EndsIn left' so.stream = read_on reader reader' left left' l so.stream so.is reads in
      record {
        last = so.state;
        pending = ends.front;
        rest = ends.rest;
        runs = stops_at start bytes answers reader left answerer ends.front ends.rest so ends.is;
        left = ends.told;
      }

  -- The source stopped.
  pub cut : (start : S) (bytes : List ℕ) (answers : List R) (reader reader' : Reader) (left left' : Option (List ℕ)) (answerer : W) (why : LineStop)
      → Reached start bytes answers reader left answerer → Stops reader left reader' left' why → (reader.ended ≡ true → ⊥) → AnswersTaken Answers start bytes answers left'
  cut start bytes answers reader reader' left left' answerer why so stops not_ended =
      let tail : OpenLineOf left' so.stream = stops.open_line so.stream so.is in
      record {
        last = so.state;
        lines = so.lines;
        is = so.behind ∙ ap (λ (w : List ℕ). so.lines ++ w) tail.is;
        line_end = closed so.line_end;
        open_line = tail.open_line;
        rest = tail.rest;
        runs = stops_at start bytes answers reader left answerer tail.open_line tail.rest so tail.is;
        no_end = tail.no_end;
        left = tail.told;
      }
    where
      closed : (EndsLine so.lines ⊎ (reader.ended ≡ true)) → EndsLine so.lines
      closed (inl line_end) = line_end
      closed (inr at_end) = absurd (not_ended at_end)

  -- All lines were answered, and none is left.
  pub through : (start : S) (bytes : List ℕ) (answers : List R) (reader reader' : Reader) (left left' : Option (List ℕ)) (answerer : W)
      → Reached start bytes answers reader left answerer → Ends reader left reader' left' → AnswersThrough Answers Stands answerer start bytes answers left'
  through start bytes answers reader reader' left left' answerer so ends =
      let empty = ends.empty so.stream so.is in
      let none : so.stream ≡ [] = empty.0 in
      let behind : StreamIs reader' left' [] = empty.1 in
      record {
        last = so.state;
        runs =
            subst (λ all. LineByLine Answers start bytes all so.state []) (append-nil answers)
            (so.goes_on [] so.state [] (subst (λ s. LineByLine Answers so.state so.stream [] so.state s) none stop));
        at = so.at;
        left = behind.told ∙ ap Some (behind.at_end ends.ended);
      }
