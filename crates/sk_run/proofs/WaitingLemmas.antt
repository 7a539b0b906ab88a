-- How what waits is put.
use Rattle.std.proofs.Common.{◌≡◌, ℕ, List, [], ◌++◌, Option, Some, None, Result, Ok, Err, OnOk, OnErr, flat_map, refl, sym, ap, ◌∙◌, subst, append_assoc, append-nil}
use Rattle.std.specs.Io.KnownBytes.{Appends}
use Rattle.std.proofs.KnownBytes.{Appends-nil, Appends-trans}
use Rattle.sk_io.specs.Fronts.{AppendsFront, AppendsPrefix}
use Rattle.sk_run.specs.Ends.{PutsFront}
use Rattle.sk_run.specs.Waiting.{MovesOut}

-- Nothing was put.
pub moves_none : (bytes : List ℕ) (h : Option (List ℕ)) → MovesOut bytes bytes h h
moves_none bytes h = record { front = []; parts = refl; put = Appends-nil h }

-- All was put.
pub moves_all : (bytes waiting : List ℕ) (h h' : Option (List ℕ)) → Appends h h' bytes → waiting ≡ [] → MovesOut bytes waiting h h'
moves_all bytes waiting h h' put none = record { front = bytes; parts = sym (ap (λ (w : List ℕ). bytes ++ w) none ∙ append-nil bytes); put = put }

-- Where nothing waits all was put.
pub moves_done : (bytes waiting : List ℕ) (h h' : Option (List ℕ)) → MovesOut bytes waiting h h' → waiting ≡ [] → Appends h h' bytes
moves_done bytes waiting h h' m none = subst (λ (w : List ℕ). Appends h h' w) (sym (m.parts ∙ ap (λ (w : List ℕ). m.front ++ w) none ∙ append-nil m.front)) m.put

-- A text more waits behind.
pub moves_text : (bytes waiting text : List ℕ) (h h' : Option (List ℕ)) → MovesOut bytes waiting h h' → MovesOut (bytes ++ text) (waiting ++ text) h h'
moves_text bytes waiting text h h' m = record { front = m.front; parts = ap (λ (w : List ℕ). w ++ text) m.parts ∙ append_assoc m.front waiting text; put = m.put }

-- More of what waits was put.
pub moves_on : (bytes waiting waiting' : List ℕ) (h0 h1 h2 : Option (List ℕ)) → MovesOut bytes waiting h0 h1 → MovesOut waiting waiting' h1 h2 → MovesOut bytes waiting' h0 h2
moves_on bytes waiting waiting' h0 h1 h2 m n = record {
  front = m.front ++ n.front;
  parts = m.parts ∙ ap (λ (w : List ℕ). m.front ++ w) n.parts ∙ sym (append_assoc m.front n.front waiting');
  put = Appends-trans h0 h1 h2 m.front n.front m.put n.put;
}

-- A text joined what waits.
pub moves_more : (bytes waiting waiting' text : List ℕ) (h0 h1 h2 : Option (List ℕ)) → MovesOut bytes waiting h0 h1 → MovesOut (waiting ++ text) waiting' h1 h2 → MovesOut (bytes ++ text) waiting' h0 h2
moves_more bytes waiting waiting' text h0 h1 h2 m n = moves_on (bytes ++ text) (waiting ++ text) waiting' h0 h1 h2 (moves_text bytes waiting text h0 h1 m) n

-- All that waits was put, and so all.
pub moves_last : (bytes waiting : List ℕ) (h0 h1 h2 : Option (List ℕ)) → MovesOut bytes waiting h0 h1 → Appends h1 h2 waiting → Appends h0 h2 bytes
moves_last bytes waiting h0 h1 h2 m put = moves_done bytes [] h0 h2 (moves_on bytes waiting [] h0 h1 h2 m (moves_all waiting [] h1 h2 put refl)) refl

-- A front of what waits was put, and so a front of all.
pub moves_prefix : (bytes waiting : List ℕ) (h0 h1 h2 : Option (List ℕ)) → MovesOut bytes waiting h0 h1 → AppendsPrefix h1 h2 waiting → AppendsPrefix h0 h2 bytes
moves_prefix bytes waiting None h1 h2 m prefix = tt
moves_prefix bytes waiting (Some xs) None h2 m prefix = absurd m.put
moves_prefix bytes waiting (Some xs) (Some ys) h2 m prefix =
    let front : AppendsFront ys h2 waiting = prefix in
    let before : ys ≡ xs ++ m.front = m.put in
    record {
      shown = m.front ++ front.shown;
      rest = front.rest;
      whole = m.parts ∙ ap (λ (w : List ℕ). m.front ++ w) front.whole ∙ sym (append_assoc m.front front.shown front.rest);
      now_held = front.now_held ∙ ap Some (ap (λ (w : List ℕ). w ++ front.shown) before ∙ append_assoc xs m.front front.shown);
    }

-- A front of a text is one of a longer text.
pub prefix_longer : (bytes text : List ℕ) (h h' : Option (List ℕ)) → AppendsPrefix h h' bytes → AppendsPrefix h h' (bytes ++ text)
prefix_longer bytes text None h' prefix = tt
prefix_longer bytes text (Some xs) h' prefix =
    let front : AppendsFront xs h' bytes = prefix in
    record { shown = front.shown; rest = front.rest ++ text; whole = ap (λ (w : List ℕ). w ++ text) front.whole ∙ append_assoc front.shown front.rest text; now_held = front.now_held }

-- A front of the texts of answers was put.
pub puts_front : {R : Type 0} (text : R → List ℕ) (answers : List R) (h h' : Option (List ℕ)) → AppendsPrefix h h' (flat_map text answers) → PutsFront text answers h h'
puts_front text answers None h' prefix = record { shown = []; hidden = flat_map text answers; parts = refl; put = tt }
puts_front text answers (Some xs) h' prefix =
    let front : AppendsFront xs h' (flat_map text answers) = prefix in
    record { shown = front.shown; hidden = front.rest; parts = front.whole; put = subst (λ o. Appends (Some xs) o front.shown) (sym front.now_held) refl }

-- All was put, and a text behind it.
pub moves_both : (bytes waiting text : List ℕ) (h0 h1 h2 : Option (List ℕ)) → Appends h0 h1 bytes → Appends h1 h2 text → waiting ≡ [] → MovesOut (bytes ++ text) waiting h0 h2
moves_both bytes waiting text h0 h1 h2 p q none = moves_all (bytes ++ text) waiting h0 h2 (Appends-trans h0 h1 h2 bytes text p q) none

-- All was put, and a front of a text behind it.
pub prefix_behind : (bytes text : List ℕ) (h0 h1 h2 : Option (List ℕ)) → Appends h0 h1 bytes → AppendsPrefix h1 h2 text → AppendsPrefix h0 h2 (bytes ++ text)
prefix_behind bytes text h0 h1 h2 put prefix = moves_prefix (bytes ++ text) text h0 h1 h2 (record { front = bytes; parts = refl; put = put }) prefix

-- What holds at an `Ok` in other words, and at an `Err`.
pub on_ok_as : {T E : Type 0} (P Q : Type 0) (r : Result T E) → (P → Q) → OnOk r P → OnOk r Q
on_ok_as P Q (Ok x) f h = f h
on_ok_as P Q (Err e) f h = tt

pub on_err_as : {T E : Type 0} (P Q : Type 0) (r : Result T E) → (P → Q) → OnErr r P → OnErr r Q
on_err_as P Q (Ok x) f h = tt
on_err_as P Q (Err e) f h = f h

pub on_err : {T E : Type 0} (P : Type 0) (r : Result T E) → P → OnErr r P
on_err P (Ok x) h = tt
on_err P (Err e) h = h

-- what waits is what waited, and a text
pub moves_joined : (bytes waiting text waiting' : List ℕ) (h0 h1 : Option (List ℕ)) → MovesOut bytes waiting h0 h1 → waiting' ≡ waiting ++ text → MovesOut (bytes ++ text) waiting' h0 h1
moves_joined bytes waiting text waiting' h0 h1 m is = rw is (moves_text bytes waiting text h0 h1 m)
