-- The bytes still to come, through the steps of a reader.
use Rattle.std.proofs.Common.{◌≡◌, ◌≤◌, ◌<◌, ◌+◌, ℕ, true, List, [], ◌∷◌, ◌++◌, Option, None, Some, length, take, drop, refl, sym, ap, ◌∙◌, subst, append_assoc, arith, length-drop, length-append, rules, inl, inr, ◌⊎◌}
use Rattle.std.proofs.lemmas.List.{take-append-drop, length-take, take_at, drop_all}
use Rattle.std.specs.Io.KnownBytes.{Consumes, Keeps, IsAtEnd}
use Rattle.sk_io.specs.declared.line.LineStop.{LineStop}
use Rattle.sk_io.specs.declared.found.LineEnd.TheVariants.{Nowhere}
use Rattle.sk_io.specs.LineText.{most_line, NoLineEnd}
use Rattle.sk_io.specs.Reading.{Reader, pending, StreamIs}
use Rattle.sk_io.specs.Answers.{Charged, Ends, Gives, PassesOver, Stops}
use Rattle.sk_io.specs.Steps.{EndsAt, IsOpen, Fills, Halts, Tells, Passes, Halted, NoneLeft, IsFar, Sought, IsOver, Skips}
use Rattle.sk_io.proofs.LineEnds.{no_end_both, no_end_same, length-before, take-through}

-- what is pending where nothing was given
open_pending : (r : Reader) → IsOpen r → pending r ≡ r.held
open_pending r o = ap (λ k. drop k r.held) o.none_given

-- a list of no length
nil_of : (xs : List ℕ) → length xs ≡ 0 → xs ≡ []
nil_of [] e = refl
nil_of (x ∷ xs) e = absurd (omega arith)

-- what a told source has left after a read
pub consumes_told : (left left' : Option (List ℕ)) (rest taken : List ℕ) → left ≡ Some rest → Consumes left left' taken
    → (rest' : List ℕ) × (left' ≡ Some rest') × (rest ≡ taken ++ rest')
consumes_told None left' rest taken e h = absurd (cc)
consumes_told (Some xs) None rest taken e h = absurd h
consumes_told (Some xs) (Some ys) rest taken e h =
    let same : rest ≡ xs = cc in
    (ys, refl, same ∙ h)

-- what a told source has left where it keeps it
pub keeps_told : (left left' : Option (List ℕ)) (rest : List ℕ) → left ≡ Some rest → Keeps left left' → left' ≡ Some rest
keeps_told None left' rest e h = absurd (cc)
keeps_told (Some xs) None rest e h = absurd h
keeps_told (Some xs) (Some ys) rest e h = ap (λ w. Some w) h ∙ e

-- a told source at its end has nothing left
pub end_told : (left : Option (List ℕ)) (rest : List ℕ) → left ≡ Some rest → IsAtEnd left → rest ≡ []
end_told None rest e h = absurd (cc)
end_told (Some xs) rest e h =
    let same : rest ≡ xs = cc in
    same ∙ h

-- the source and the room are as before
tells_same : (a b : Reader) (left : Option (List ℕ)) (rest : List ℕ) → b.room ≡ a.room → left ≡ Some rest → Tells a b left rest
tells_same a b left rest room told = record { rest' = rest; told = told; charged = omega (arith, room) }

-- what a source tells after two steps
tells_both : (a b c : Reader) (lb lc : Option (List ℕ)) (rest : List ℕ) → (one : Tells a b lb rest) → Tells b c lc one.rest' → Tells a c lc rest
tells_both a b c lb lc rest one two = record { rest' = two.rest'; told = two.told; charged = omega (arith, one.charged, two.charged) }

-- what a source has left after its end
left_at_end : (left : Option (List ℕ)) (old : Reader) (rest taken rest' : List ℕ) → left ≡ Some rest' → rest ≡ taken ++ rest' → (old.ended ≡ true → rest ≡ [])
    → IsAtEnd left ⊎ (old.ended ≡ true) → rest' ≡ []
left_at_end left old rest taken rest' told is before (inl at_end) = end_told left rest' told at_end
left_at_end left old rest taken rest' told is before (inr ended) = nil_of rest' (omega (arith, ap length is, ap length (before ended), length-append taken rest'))

-- nothing was done, and nothing passed over
pub pass_none : (r : Reader) (left : Option (List ℕ)) → Passes r left r left []
pass_none r left = record {
  count = omega arith;
  behind = λ s h. record { rest = s; is = refl; stream = h };
  tells = λ rest told. tells_same r r left rest refl told;
}

-- one step after another
pub pass_both : (a : Reader) (la : Option (List ℕ)) (b : Reader) (lb : Option (List ℕ)) (c : Reader) (lc : Option (List ℕ)) (p q : List ℕ)
    → Passes a la b lb p → Passes b lb c lc q → Passes a la c lc (p ++ q)
pass_both a la b lb c lc p q f g = record {
  count = omega (arith, f.count, g.count, length-append p q);
  behind = λ s h.
      let one = f.behind s h in
      let two = g.behind one.rest one.stream in
      record {
        rest = two.rest;
        is = one.is ∙ ap (λ w. p ++ w) two.is ∙ sym (append_assoc p q two.rest);
        stream = two.stream;
      };
  tells = λ rest told.
      let one = f.tells rest told in
      tells_both a b c lb lc rest one (g.tells one.rest' one.told);
}

-- a step after which nothing more is passed over
pub pass_then : (a : Reader) (la : Option (List ℕ)) (b : Reader) (lb : Option (List ℕ)) (c : Reader) (lc : Option (List ℕ)) (p : List ℕ)
    → Passes a la b lb p → Passes b lb c lc [] → Passes a la c lc p
pass_then a la b lb c lc p f g = record {
  count = omega (arith, f.count, g.count);
  behind = λ s h.
      let one = f.behind s h in
      let two = g.behind one.rest one.stream in
      record { rest = two.rest; is = one.is ∙ ap (λ w. p ++ w) two.is; stream = two.stream };
  tells = λ rest told.
      let one = f.tells rest told in
      tells_both a b c lb lc rest one (g.tells one.rest' one.told);
}

-- the same, with equal bytes passed over
pub pass_same : (a : Reader) (la : Option (List ℕ)) (b : Reader) (lb : Option (List ℕ)) (p q : List ℕ) → p ≡ q → Passes a la b lb p → Passes a la b lb q
pass_same a la b lb p q e h = subst (λ w. Passes a la b lb w) e h

-- a read passes over nothing
pub pass_fill : (a : Reader) (la : Option (List ℕ)) (b : Reader) (lb : Option (List ℕ)) (n : ℕ) → IsOpen a → Fills a la b lb n → Passes a la b lb []
pass_fill a la b lb n o f =
    let pa : pending a ≡ a.held = open_pending a o in
    let pb : pending b ≡ a.held ++ f.taken = open_pending b f.is_open ∙ f.held in
    record {
      count = omega (arith, ap length pa, ap length pb, length-append a.held f.taken, f.count, f.room);
      behind = λ s h.
          let told = consumes_told la lb h.rest f.taken h.told f.told in
          record {
            rest = s;
            is = refl;
            stream = record {
              rest = told.0;
              told = told.1;
              is =
                  h.is ∙ ap (λ w. w ++ h.rest) pa ∙ ap (λ w. a.held ++ w) told.2 ∙ sym (append_assoc a.held f.taken told.0)
                  ∙ ap (λ w. w ++ told.0) (sym pb);
              at_end = λ e. left_at_end lb a h.rest f.taken told.0 told.1 told.2 h.at_end (f.at_end e);
            };
          };
      tells = λ rest t.
          let told = consumes_told la lb rest f.taken t f.told in
          record { rest' = told.0; told = told.1; charged = omega (arith, f.room, f.count, ap length told.2, length-append f.taken told.0) };
    }

-- a stop passes over nothing
pub pass_halt : (a : Reader) (la : Option (List ℕ)) (b : Reader) (lb : Option (List ℕ)) (why : LineStop) → Halts a la b lb why → Passes a la b lb []
pass_halt a la b lb why h =
    let same : pending b ≡ pending a = ap (λ r. pending r) h.is in
    let room : b.room ≡ a.room = ap (λ r. r.room) h.is in
    let ended : b.ended ≡ a.ended = ap (λ r. r.ended) h.is in
    record {
      count = omega (arith, ap length same, room);
      behind = λ s t. record {
        rest = s;
        is = refl;
        stream = record {
          rest = t.rest;
          told = keeps_told la lb t.rest t.told h.keeps;
          is = t.is ∙ ap (λ w. w ++ t.rest) (sym same);
          at_end = λ e. t.at_end (sym ended ∙ e);
        };
      };
      tells = λ rest told. tells_same a b lb rest room (keeps_told la lb rest told h.keeps);
    }

-- dropping what was given passes over nothing
pub pass_drop_given : (a : Reader) (left : Option (List ℕ)) → Passes a left (record a { held = pending a; given = 0 }) left []
pass_drop_given a left = record {
  count = omega arith;
  behind = λ s h. record { rest = s; is = refl; stream = record { rest = h.rest; told = h.told; is = h.is; at_end = h.at_end } };
  tells = λ rest told. tells_same a (record a { held = pending a; given = 0 }) left rest refl told;
}

-- the drop of what was given
pub drop_none : (old : Reader) (lo : Option (List ℕ)) (a : Reader) → a ≡ record old { held = pending old; given = 0 } → Passes old lo a lo []
drop_none old lo a e = subst (λ r. Passes old lo r lo []) (sym e) (pass_drop_given old lo)

-- a step behind the drop of what was given
pub drop_then : (old : Reader) (lo : Option (List ℕ)) (a : Reader) (b : Reader) (lb : Option (List ℕ)) → a ≡ record old { held = pending old; given = 0 } → Passes a lo b lb []
    → Passes old lo b lb []
drop_then old lo a b lb e p =
    let first : Passes old lo a lo [] = subst (λ r. Passes old lo r lo []) (sym e) (pass_drop_given old lo) in
    pass_then old lo a lo b lb [] first p

-- dropping all that is held passes over it
pub pass_drop_held : (a : Reader) (left : Option (List ℕ)) → IsOpen a → Passes a left (record a { held = []; given = 0 }) left a.held
pass_drop_held a left o =
    let pa : pending a ≡ a.held = open_pending a o in
    record {
      count = omega (arith, ap length pa);
      behind = λ s h. record {
        rest = h.rest;
        is = h.is ∙ ap (λ w. w ++ h.rest) pa;
        stream = record { rest = h.rest; told = h.told; is = refl; at_end = h.at_end };
      };
      tells = λ rest told. tells_same a (record a { held = []; given = 0 }) left rest refl told;
    }

-- giving some bytes passes over them
pub pass_give : (a : Reader) (left : Option (List ℕ)) (n : ℕ) → IsOpen a → n ≤ length a.held → Passes a left (record a { given = n }) left (take n a.held)
pass_give a left n o le =
    let pa : pending a ≡ a.held = open_pending a o in
    let len : length (take n a.held) ≡ n = simp length-take (omega arith) in
    record {
      count = omega (arith, ap length pa, len, length-drop n a.held);
      behind = λ s h. record {
        rest = drop n a.held ++ h.rest;
        is = h.is ∙ ap (λ w. w ++ h.rest) (pa ∙ sym (take-append-drop n a.held)) ∙ append_assoc (take n a.held) (drop n a.held) h.rest;
        stream = record { rest = h.rest; told = h.told; is = refl; at_end = h.at_end };
      };
      tells = λ rest told. tells_same a (record a { given = n }) left rest refl told;
    }

-- what was taken off the room was taken off the source
pub charged : (a : Reader) (la : Option (List ℕ)) (b : Reader) (lb : Option (List ℕ)) (over : List ℕ) → Passes a la b lb over → Charged a la b lb
charged a la b lb over p = λ rest rest' told told'.
    let t = p.tells rest told in
    let e : Some t.rest' ≡ Some rest' = sym t.told ∙ told' in
    let same : t.rest' ≡ rest' = cc in
    omega (arith, t.charged, ap length same)

-- nothing is left of the stream where nothing is pending and the source's end was reached
over_told : (r : Reader) (left : Option (List ℕ)) (s : List ℕ) → pending r ≡ [] → r.ended ≡ true → StreamIs r left s → s ≡ []
over_told r left s none ended h =
    h.is ∙ ap (λ w. w ++ h.rest) none ∙ h.at_end ended

-- what has a line's end is more than the line
has_end : (line after s : List ℕ) → s ≡ line ++ 10 ∷ after → s ≡ line → ⊥
has_end line after s is same = omega (arith, ap length is, ap length same, length-append line (10 ∷ after))

-- a line that ends in what is held is given
line_given : (old : Reader) (lo : Option (List ℕ)) (mid : Reader) (lm : Option (List ℕ)) (at : ℕ) → Passes old lo mid lm [] → IsOpen mid → EndsAt mid.held at
    → at ≤ most_line → Gives old lo (record mid { given = at + 1 }) lm (take at mid.held)
line_given old lo mid lm at before o end short =
    let le : at + 1 ≤ length mid.held = omega (arith, end.inside) in
    let long : length (take (at + 1) mid.held) ≡ at + 1 = simp length-take (omega arith) in
    let p : Passes old lo (record mid { given = at + 1 }) lm (take (at + 1) mid.held) = pass_both old lo mid lm (record mid { given = at + 1 }) lm [] (take (at + 1) mid.held) before (pass_give mid lm (at + 1) o le) in
    record {
      goes = o.goes;
      short = omega (arith, length-before mid.held at end);
      falls = omega (arith, p.count, long);
      first = λ s h.
          let g = p.behind s h in
          let is : s ≡ take at mid.held ++ 10 ∷ g.rest = g.is ∙ ap (λ w. w ++ g.rest) (take-through mid.held at end) ∙ append_assoc (take at mid.held) (10 ∷ []) g.rest in
          record {
            after = g.rest;
            is_line = record {
              no_end = end.no_end;
              is = inl is;
            };
            goes_on = g.stream;
            last = λ same. absurd (has_end (take at mid.held) g.rest s is same);
          };
      charged = charged old lo (record mid { given = at + 1 }) lm (take (at + 1) mid.held) p;
    }

-- a line that ends in what is held, and is too long, is passed over
long_given : (old : Reader) (lo : Option (List ℕ)) (mid : Reader) (lm : Option (List ℕ)) (at : ℕ) → Passes old lo mid lm [] → IsOpen mid → EndsAt mid.held at
    → most_line < at → PassesOver old lo (record mid { given = at + 1 }) lm
long_given old lo mid lm at before o end far =
    let le : at + 1 ≤ length mid.held = omega (arith, end.inside) in
    let long : length (take (at + 1) mid.held) ≡ at + 1 = simp length-take (omega arith) in
    let p : Passes old lo (record mid { given = at + 1 }) lm (take (at + 1) mid.held) = pass_both old lo mid lm (record mid { given = at + 1 }) lm [] (take (at + 1) mid.held) before (pass_give mid lm (at + 1) o le) in
    record {
      goes = o.goes;
      falls = omega (arith, p.count, long);
      first = λ s h.
          let g = p.behind s h in
          let is : s ≡ take at mid.held ++ 10 ∷ g.rest = g.is ∙ ap (λ w. w ++ g.rest) (take-through mid.held at end) ∙ append_assoc (take at mid.held) (10 ∷ []) g.rest in
          record {
            line = take at mid.held;
            long = omega (arith, length-before mid.held at end);
            first = record {
              after = g.rest;
              is_line = record {
                no_end = end.no_end;
                is = inl is;
              };
              goes_on = g.stream;
              last = λ same. absurd (has_end (take at mid.held) g.rest s is same);
            };
          };
      charged = charged old lo (record mid { given = at + 1 }) lm (take (at + 1) mid.held) p;
    }

-- the last line, which has no end, is given
rest_given : (old : Reader) (lo : Option (List ℕ)) (mid : Reader) (lm : Option (List ℕ)) (n : ℕ) → Passes old lo mid lm [] → IsOpen mid → NoneLeft mid
    → n ≡ length mid.held → 0 < n → Gives old lo (record mid { given = n }) lm (take n mid.held)
rest_given old lo mid lm n before o none e some =
    let le : n ≤ length mid.held = omega arith in
    let len : length (take n mid.held) ≡ n = simp length-take (omega arith) in
    let all : drop n mid.held ≡ [] = drop_all n mid.held (omega arith) in
    let whole : mid.held ≡ take n mid.held = sym (take-append-drop n mid.held) ∙ ap (λ w. take n mid.held ++ w) all ∙ search rules in
    let p : Passes old lo (record mid { given = n }) lm (take n mid.held) = pass_both old lo mid lm (record mid { given = n }) lm [] (take n mid.held) before (pass_give mid lm n o le) in
    record {
      goes = o.goes;
      short = omega (arith, none.short, len);
      falls = omega (arith, p.count, len);
      first = λ s h.
          let g = p.behind s h in
          let over : g.rest ≡ [] = over_told (record mid { given = n }) lm g.rest all none.ended g.stream in
          let same : take n mid.held ++ [] ≡ take n mid.held = search rules in
          record {
            after = g.rest;
            is_line = record {
              no_end = no_end_same mid.held (take n mid.held) whole none.no_end;
              is = inr (g.is ∙ ap (λ w. take n mid.held ++ w) over ∙ same, omega (arith, len), over);
            };
            goes_on = g.stream;
            last = λ _. none.ended;
          };
      charged = charged old lo (record mid { given = n }) lm (take n mid.held) p;
    }

-- the same, at the reader that gives the line
pub give_line : (old : Reader) (lo : Option (List ℕ)) (mid : Reader) (lm : Option (List ℕ)) (new : Reader) (at : ℕ) → new ≡ record mid { given = at + 1 } → Passes old lo mid lm []
    → IsOpen mid → EndsAt mid.held at → at ≤ most_line → Gives old lo new lm (take at new.held)
give_line old lo mid lm new at e before o end short = subst (λ r. Gives old lo r lm (take at r.held)) (sym e) (line_given old lo mid lm at before o end short)

-- the same, at the reader that passes over the line
pub give_long : (old : Reader) (lo : Option (List ℕ)) (mid : Reader) (lm : Option (List ℕ)) (new : Reader) (at : ℕ) → new ≡ record mid { given = at + 1 } → Passes old lo mid lm []
    → IsOpen mid → EndsAt mid.held at → most_line < at → PassesOver old lo new lm
give_long old lo mid lm new at e before o end far = subst (λ r. PassesOver old lo r lm) (sym e) (long_given old lo mid lm at before o end far)

-- the same, at the reader that gives the last line
pub give_rest : (old : Reader) (lo : Option (List ℕ)) (mid : Reader) (lm : Option (List ℕ)) (new : Reader) (n : ℕ) → new ≡ record mid { given = n } → Passes old lo mid lm []
    → IsOpen mid → NoneLeft mid → n ≡ length mid.held → 0 < n → Gives old lo new lm (take n new.held)
give_rest old lo mid lm new n e before o none len some = subst (λ r. Gives old lo r lm (take n r.held)) (sym e) (rest_given old lo mid lm n before o none len some)

-- no line is left
pub ends : (old : Reader) (lo : Option (List ℕ)) (mid : Reader) (lm : Option (List ℕ)) → Passes old lo mid lm [] → IsOpen mid → NoneLeft mid
    → length mid.held ≡ 0 → Ends old lo mid lm
ends old lo mid lm before o none e =
    let no_pending : pending mid ≡ [] = open_pending mid o ∙ nil_of mid.held e in
    record {
      goes = o.goes;
      ended = none.ended;
      more_room = none.more_room;
      reaches = omega (arith, before.count);
      empty = λ s h.
          let g = before.behind s h in
          let over : g.rest ≡ [] = over_told mid lm g.rest no_pending none.ended g.stream in
          (g.is ∙ over, record { rest = g.stream.rest; told = g.stream.told; is = sym over ∙ g.stream.is; at_end = g.stream.at_end });
      charged = charged old lo mid lm [] before;
    }

-- a line that is too long was passed over up to its end
passed_end : (old : Reader) (lo : Option (List ℕ)) (new : Reader) (ln : Option (List ℕ)) (line : List ℕ) → NoLineEnd line → most_line < length line → new.stopped ≡ None
    → Passes old lo new ln (line ++ 10 ∷ []) → PassesOver old lo new ln
passed_end old lo new ln line none long goes p = record {
  goes = goes;
  falls = omega (arith, p.count, length-append line (10 ∷ []));
  first = λ s h.
      let g = p.behind s h in
      let is : s ≡ line ++ 10 ∷ g.rest = g.is ∙ append_assoc line (10 ∷ []) g.rest in
      record {
        line = line;
        long = long;
        first = record {
          after = g.rest;
          is_line = record { no_end = none; is = inl is };
          goes_on = g.stream;
          last = λ same. absurd (has_end line g.rest s is same);
        };
      };
  charged = charged old lo new ln (line ++ 10 ∷ []) p;
}

-- a line that is too long was passed over up to the end of the source
passed_all : (old : Reader) (lo : Option (List ℕ)) (new : Reader) (ln : Option (List ℕ)) (line : List ℕ) → NoLineEnd line → most_line < length line → new.stopped ≡ None
    → Passes old lo new ln line → IsOver new → PassesOver old lo new ln
passed_all old lo new ln line none long goes p is_over = record {
  goes = goes;
  falls = omega (arith, p.count);
  first = λ s h.
      let g = p.behind s h in
      let over : g.rest ≡ [] = over_told new ln g.rest is_over.none_held is_over.ended g.stream in
      let same : line ++ [] ≡ line = search rules in
      record {
        line = line;
        long = long;
        first = record {
          after = g.rest;
          is_line = record { no_end = none; is = inr (g.is ∙ ap (λ w. line ++ w) over ∙ same, omega arith, over) };
          goes_on = g.stream;
          last = λ _. is_over.ended;
        };
      };
  charged = charged old lo new ln line p;
}

-- it was passed over in one of these ways
either_way : (old : Reader) (lo : Option (List ℕ)) (mid : Reader) (lm : Option (List ℕ)) (new : Reader) (ln : Option (List ℕ)) (line : List ℕ) → NoLineEnd line
    → most_line < length line → new.stopped ≡ None → Passes old lo mid lm []
    → Passes mid lm new ln (line ++ 10 ∷ []) ⊎ (Passes mid lm new ln line × IsOver new) → PassesOver old lo new ln
either_way old lo mid lm new ln line none long goes before (inl p) =
    passed_end old lo new ln line none long goes (pass_both old lo mid lm new ln [] (line ++ 10 ∷ []) before p)
either_way old lo mid lm new ln line none long goes before (inr p) =
    passed_all old lo new ln line none long goes (pass_both old lo mid lm new ln [] line before p.0) p.1

-- a line that is too long was passed over, up to its end or the end of the source
pub passes_over : (old : Reader) (lo : Option (List ℕ)) (mid : Reader) (lm : Option (List ℕ)) (new : Reader) (ln : Option (List ℕ)) → Passes old lo mid lm [] → IsFar mid
    → Skips mid lm new ln → PassesOver old lo new ln
passes_over old lo mid lm new ln before far sk =
    let long : most_line < length sk.line = omega (arith, far.long, sk.long) in
    either_way old lo mid lm new ln sk.line sk.no_end long sk.goes before sk.passes

-- a stop in the middle of a line
pub stops : (old : Reader) (lo : Option (List ℕ)) (mid : Reader) (lm : Option (List ℕ)) (new : Reader) (ln : Option (List ℕ)) (why : LineStop) → Passes old lo mid lm []
    → Halted mid lm new ln why → Stops old lo new ln why
stops old lo mid lm new ln why before h =
    let p : Passes old lo new ln h.over = pass_both old lo mid lm new ln [] h.over before h.passes in
    let none : pending new ≡ new.held = ap (λ k. drop k new.held) h.none_given in
    record {
      stopped_for = h.stopped_for;
      full = h.full;
      reaches = omega (arith, p.count);
      open_line = λ s t.
          let g = p.behind s t in
          record {
            open_line = h.over ++ new.held;
            rest = g.stream.rest;
            no_end = h.no_end;
            is =
                g.is ∙ ap (λ w. h.over ++ w) (g.stream.is ∙ ap (λ w. w ++ g.stream.rest) none)
                ∙ sym (append_assoc h.over new.held g.stream.rest);
            told = g.stream.told;
          };
      charged = charged old lo new ln h.over p;
    }

-- what was read of a line whose end is sought: no end is among the first `seen` bytes
pub record SearchSoFar (old : Reader) (lo : Option (List ℕ)) (now : Reader) (ln : Option (List ℕ)) (seen : ℕ) : Type 0 where
  pub is_open : IsOpen now
  pub passes : Passes old lo now ln []
  pub inside : seen ≤ length now.held
  pub no_end : NoLineEnd (take seen now.held)

-- the search goes on behind what was held
pub search_more : (old : Reader) (lo : Option (List ℕ)) (a : Reader) (la : Option (List ℕ)) (b : Reader) (lb : Option (List ℕ)) (seen n : ℕ) → SearchSoFar old lo a la seen
    → NoLineEnd a.held → Fills a la b lb n → SearchSoFar old lo b lb (length a.held)
search_more old lo a la b lb seen n so_far none f =
    let front : take (length a.held) b.held ≡ a.held = ap (take (length a.held)) f.held ∙ take_at a.held f.taken (length a.held) refl in
    record {
      is_open = f.is_open;
      passes = pass_then old lo a la b lb [] so_far.passes (pass_fill a la b lb n so_far.is_open f);
      inside = omega (arith, ap length f.held, length-append a.held f.taken);
      no_end = no_end_same a.held _ (sym front) none;
    }

-- the search stops
pub search_halts : (old : Reader) (lo : Option (List ℕ)) (a : Reader) (la : Option (List ℕ)) (b : Reader) (lb : Option (List ℕ)) (seen : ℕ) (why : LineStop)
    → SearchSoFar old lo a la seen → NoLineEnd a.held → Halts a la b lb why → Halted old lo b lb why
search_halts old lo a la b lb seen why so_far none h = record {
  over = [];
  passes = pass_then old lo a la b lb [] so_far.passes (pass_halt a la b lb why h);
  no_end = no_end_same a.held b.held (sym (ap (λ r. r.held) h.is)) none;
  none_given = ap (λ r. r.given) h.is ∙ so_far.is_open.none_given;
  stopped_for = ap (λ r. r.stopped) h.is;
  full = λ e. ap (λ r. r.room) h.is ∙ h.full e;
}

-- nothing was added by a read of no bytes
same_held : (a : Reader) (la : Option (List ℕ)) (b : Reader) (lb : Option (List ℕ)) (n : ℕ) → Fills a la b lb n → n ≡ 0 → b.held ≡ a.held
same_held a la b lb n f none =
    let nothing : f.taken ≡ [] = nil_of f.taken (omega (arith, f.count)) in
    f.held ∙ ap (λ w. a.held ++ w) nothing ∙ search rules

-- the search found the end of the source
pub search_ends : (old : Reader) (lo : Option (List ℕ)) (a : Reader) (la : Option (List ℕ)) (b : Reader) (lb : Option (List ℕ)) (seen n : ℕ) → SearchSoFar old lo a la seen
    → NoLineEnd a.held → length a.held ≤ most_line → Fills a la b lb n → n ≡ 0 → Sought old lo b lb Nowhere
search_ends old lo a la b lb seen n so_far none short f e =
    let same : b.held ≡ a.held = same_held a la b lb n f e in
    record {
      is_open = f.is_open;
      passes = pass_then old lo a la b lb [] so_far.passes (pass_fill a la b lb n so_far.is_open f);
      sought = record {
        no_end = no_end_same a.held b.held (sym same) none;
        short = omega (arith, ap length same);
        more_room = omega (arith, f.had_room, f.room);
        ended = f.ended e;
      };
    }

-- what was passed over of a line that is too long
pub record SkipSoFar (old : Reader) (lo : Option (List ℕ)) (now : Reader) (ln : Option (List ℕ)) : Type 0 where
  pub is_open : IsOpen now
  pub over : List ℕ
  pub passes : Passes old lo now ln over
  pub no_end : NoLineEnd (over ++ now.held)
  pub long : length old.held ≤ length (over ++ now.held)

-- all that is held is passed over
held_skipped : (old : Reader) (lo : Option (List ℕ)) (a : Reader) (la : Option (List ℕ)) → SkipSoFar old lo a la → SkipSoFar old lo (record a { held = []; given = 0 }) la
held_skipped old lo a la so_far =
    let same : so_far.over ++ a.held ≡ (so_far.over ++ a.held) ++ [] = search rules in
    record {
      is_open = record { none_given = refl; goes = so_far.is_open.goes };
      over = so_far.over ++ a.held;
      passes = pass_both old lo a la (record a { held = []; given = 0 }) la so_far.over a.held so_far.passes (pass_drop_held a la so_far.is_open);
      no_end = no_end_same _ _ same so_far.no_end;
      long = omega (arith, so_far.long, ap length same);
    }

-- what is held was passed over, too
pub skip_held : (old : Reader) (lo : Option (List ℕ)) (a : Reader) (la : Option (List ℕ)) (b : Reader) → b ≡ record a { held = []; given = 0 } → SkipSoFar old lo a la
    → SkipSoFar old lo b la
skip_held old lo a la b e so_far = subst (λ r. SkipSoFar old lo r la) (sym e) (held_skipped old lo a la so_far)

-- what was passed over has no end
over_no_end : (old : Reader) (lo : Option (List ℕ)) (a : Reader) (la : Option (List ℕ)) → (so_far : SkipSoFar old lo a la) → a.held ≡ [] → NoLineEnd so_far.over
over_no_end old lo a la so_far empty =
    let same : so_far.over ++ a.held ≡ so_far.over = ap (λ w. so_far.over ++ w) empty ∙ search rules in
    no_end_same _ _ same so_far.no_end

-- more is held, with no end
pub skip_more : (old : Reader) (lo : Option (List ℕ)) (a : Reader) (la : Option (List ℕ)) (b : Reader) (lb : Option (List ℕ)) (n : ℕ) → SkipSoFar old lo a la → a.held ≡ []
    → Fills a la b lb n → NoLineEnd b.held → SkipSoFar old lo b lb
skip_more old lo a la b lb n so_far empty f none = record {
  is_open = f.is_open;
  over = so_far.over;
  passes = pass_then old lo a la b lb so_far.over so_far.passes (pass_fill a la b lb n so_far.is_open f);
  no_end = no_end_both so_far.over b.held (over_no_end old lo a la so_far empty) none;
  long = omega (arith, so_far.long, ap length empty, length-append so_far.over a.held, length-append so_far.over b.held);
}

-- the end of the line is held, and passed over with it
skip_found : (old : Reader) (lo : Option (List ℕ)) (a : Reader) (la : Option (List ℕ)) (b : Reader) (lb : Option (List ℕ)) (n at : ℕ) → SkipSoFar old lo a la → a.held ≡ []
    → Fills a la b lb n → EndsAt b.held at → Skips old lo (record b { given = at + 1 }) lb
skip_found old lo a la b lb n at so_far empty f end =
    let le : at + 1 ≤ length b.held = omega (arith, end.inside) in
    let p : Passes old lo b lb so_far.over = pass_then old lo a la b lb so_far.over so_far.passes (pass_fill a la b lb n so_far.is_open f) in
    let q : Passes old lo (record b { given = at + 1 }) lb (so_far.over ++ take (at + 1) b.held) = pass_both old lo b lb (record b { given = at + 1 }) lb so_far.over (take (at + 1) b.held) p (pass_give b lb (at + 1) f.is_open le) in
    let same : so_far.over ++ take (at + 1) b.held ≡ (so_far.over ++ take at b.held) ++ 10 ∷ [] =
    ap (λ w. so_far.over ++ w) (take-through b.held at end) ∙ sym (append_assoc so_far.over (take at b.held) (10 ∷ []))
    in
    record {
      goes = f.is_open.goes;
      line = so_far.over ++ take at b.held;
      no_end = no_end_both so_far.over (take at b.held) (over_no_end old lo a la so_far empty) end.no_end;
      long = omega (arith, so_far.long, ap length empty, length-append so_far.over a.held, length-append so_far.over (take at b.held));
      passes = inl (pass_same old lo (record b { given = at + 1 }) lb _ _ same q);
    }

-- the rest of the line was passed over, up to its end
pub skip_finds : (old : Reader) (lo : Option (List ℕ)) (a : Reader) (la : Option (List ℕ)) (b : Reader) (lb : Option (List ℕ)) (new : Reader) (n at : ℕ)
    → new ≡ record b { given = at + 1 } → SkipSoFar old lo a la → a.held ≡ [] → Fills a la b lb n → EndsAt b.held at → Skips old lo new lb
skip_finds old lo a la b lb new n at e so_far empty f end = subst (λ r. Skips old lo r lb) (sym e) (skip_found old lo a la b lb n at so_far empty f end)

-- the rest of the line was passed over, up to the end of the source
pub skip_ends : (old : Reader) (lo : Option (List ℕ)) (a : Reader) (la : Option (List ℕ)) (b : Reader) (lb : Option (List ℕ)) (n : ℕ) → SkipSoFar old lo a la → a.held ≡ []
    → Fills a la b lb n → n ≡ 0 → Skips old lo b lb
skip_ends old lo a la b lb n so_far empty f e = record {
  goes = f.is_open.goes;
  line = so_far.over;
  no_end = over_no_end old lo a la so_far empty;
  long = omega (arith, so_far.long, ap length empty, length-append so_far.over a.held);
  passes = inr (
    pass_then old lo a la b lb so_far.over so_far.passes (pass_fill a la b lb n so_far.is_open f),
    record { none_held = open_pending b f.is_open ∙ same_held a la b lb n f e ∙ empty; ended = f.ended e },
  );
}

-- the reader stopped while the rest of a line was passed over
pub skip_halts : (old : Reader) (lo : Option (List ℕ)) (a : Reader) (la : Option (List ℕ)) (b : Reader) (lb : Option (List ℕ)) (why : LineStop) → SkipSoFar old lo a la
    → Halts a la b lb why → Halted old lo b lb why
skip_halts old lo a la b lb why so_far h = record {
  over = so_far.over;
  passes = pass_then old lo a la b lb so_far.over so_far.passes (pass_halt a la b lb why h);
  no_end = no_end_same (so_far.over ++ a.held) (so_far.over ++ b.held) (ap (λ w. so_far.over ++ w) (sym (ap (λ r. r.held) h.is))) so_far.no_end;
  none_given = ap (λ r. r.given) h.is ∙ so_far.is_open.none_given;
  stopped_for = ap (λ r. r.stopped) h.is;
  full = λ e. ap (λ r. r.room) h.is ∙ h.full e;
}

-- the same, with an equal count of bytes that were searched
pub search_seen : (old : Reader) (lo : Option (List ℕ)) (now : Reader) (ln : Option (List ℕ)) (m n : ℕ) → m ≡ n → SearchSoFar old lo now ln m → SearchSoFar old lo now ln n
search_seen old lo now ln m n e h = subst (λ k. SearchSoFar old lo now ln k) e h
