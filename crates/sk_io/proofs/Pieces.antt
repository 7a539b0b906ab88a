-- A piece that is put in parts, and what a source in memory gives.
use Rattle.std.proofs.Common.{◌≡◌, ◌≤◌, ◌<◌, ◌+◌, ◌-◌, ◌==◌, ℕ, Bool, true, false, ◌&&◌, List, ◌∷◌, ◌++◌, Option, None, Some, [], length, take, drop, refl, sym, ap, ◌∙◌, append_assoc, arith, min, length-drop, length-append, rules}
use Rattle.std.proofs.lemmas.List.{take-append-drop, drop-drop, drop_all, take-append-le, length-take}
use Rattle.std.proofs.Math.Seq.{take-length}
use Rattle.std.proofs.lemmas.Bool.Decides.{nat_tests}
use Rattle.std.specs.Io.KnownBytes.{Appends, Keeps}
use Rattle.sk_io.specs.Fronts.{AppendsPrefix}

-- what was put of a piece, and that the sink holds it
pub record PutSoFar (old now : Option (List ℕ)) (piece rest : List ℕ) : Type 0 where
  pub put : List ℕ
  pub whole : piece ≡ put ++ rest
  pub appends : Appends old now put

-- nothing was put yet
pub put_none : (old : Option (List ℕ)) (piece : List ℕ) → PutSoFar old old piece piece
put_none None piece = record { put = []; whole = refl; appends = tt }
put_none (Some xs) piece = record { put = []; whole = refl; appends = search rules }

-- two parts appended one after another
appends_both : (old now next : Option (List ℕ)) (front part : List ℕ) → Appends old now front → Appends now next part → Appends old next (front ++ part)
appends_both None now next front part before here = tt
appends_both (Some xs) None next front part before here = absurd before
appends_both (Some xs) (Some ys) None front part before here = absurd here
appends_both (Some xs) (Some ys) (Some zs) front part before here =
    here ∙ ap (λ w. w ++ part) before ∙ append_assoc xs front part

-- the rest of a piece behind n bytes more
pub put_more : (old now next : Option (List ℕ)) (piece rest : List ℕ) (n : ℕ) → n ≤ length rest → PutSoFar old now piece rest
    → Appends now next (take n rest) → PutSoFar old next piece (take (length rest - n) (drop n rest))
put_more old now next piece rest n le so_far here =
    let all : take (length rest - n) (drop n rest) ≡ drop n rest = ap (λ k. take k (drop n rest)) (sym (length-drop n rest)) ∙ take-length (drop n rest) in
    record {
      put = so_far.put ++ take n rest;
      whole = so_far.whole ∙ ap (λ w. so_far.put ++ w) (sym (take-append-drop n rest)) ∙ sym (append_assoc so_far.put (take n rest) (drop n rest)) ∙ ap (λ w. (so_far.put ++ take n rest) ++ w) (sym all);
      appends = appends_both old now next so_far.put (take n rest) so_far.appends here;
    }

-- where the sink fails, it holds a front of the piece
pub put_front : (old now next : Option (List ℕ)) (piece rest : List ℕ) → PutSoFar old now piece rest → Keeps now next → AppendsPrefix old next piece
put_front None now next piece rest so_far kept = tt
put_front (Some xs) None next piece rest so_far kept = absurd so_far.appends
put_front (Some xs) (Some ys) None piece rest so_far kept = absurd kept
put_front (Some xs) (Some ys) (Some zs) piece rest so_far kept =
    record { shown = so_far.put; rest = rest; whole = so_far.whole; now_held = ap (λ w. Some w) (kept ∙ so_far.appends) }

-- where nothing is left, the sink holds the whole piece
pub put_whole : (old now : Option (List ℕ)) (piece rest : List ℕ) → PutSoFar old now piece rest → length rest ≡ 0 → Appends old now piece
put_whole None now piece rest so_far none = tt
put_whole (Some xs) None piece rest so_far none = absurd so_far.appends
put_whole (Some xs) (Some ys) piece [] so_far none = so_far.appends ∙ ap (λ w. xs ++ w) (search (rules, sym so_far.whole))
put_whole (Some xs) (Some ys) piece (r ∷ rest) so_far none = absurd (omega arith)

-- what is left is no longer than the piece
pub rest_short : (old now : Option (List ℕ)) (piece rest : List ℕ) → PutSoFar old now piece rest → length rest ≤ length piece
rest_short old now piece rest so_far = omega (arith, length-append so_far.put rest, ap length so_far.whole)

-- the front of a join
take-exact : (n : ℕ) (xs ys : List ℕ) → length xs ≡ n → take n (xs ++ ys) ≡ xs
take-exact n xs ys e = take-append-le n xs ys (omega arith) ∙ ap (λ k. take k xs) (sym e) ∙ take-length xs

-- a source in memory gives the front of what is left
pub gives_front : (bytes buf new : List ℕ) (at n : ℕ) → at + n ≤ length bytes → new ≡ take (at + n - at) (drop at bytes)
    → drop at bytes ≡ take n (new ++ drop n buf) ++ drop (at + n) bytes
gives_front bytes buf new at n le e =
    let short : new ≡ take n (drop at bytes) = e ∙ ap (λ k. take k (drop at bytes)) (omega arith) in
    let long : length (take n (drop at bytes)) ≡ n = simp (length-take, length-drop) (omega arith) in
    sym (take-append-drop n (drop at bytes))
    ∙ ap (λ w. w ++ drop n (drop at bytes)) (sym (take-exact n (take n (drop at bytes)) (drop n buf) long))
    ∙ ap (λ w. take n (w ++ drop n buf) ++ drop n (drop at bytes)) (sym short)
    ∙ ap (λ w. take n (new ++ drop n buf) ++ w) (drop-drop n at bytes)

-- it gives nothing only at the end
pub ends_there : (bytes : List ℕ) (at room piece n : ℕ) → 1 ≤ piece → 0 < room → n ≡ min (min room piece) (length bytes - at) → n ≡ 0 → drop (at + n) bytes ≡ []
ends_there bytes at room piece n some wide e none = drop_all (at + n) bytes (omega arith)

-- a test joined with a false one
both_false : (was : Bool) → (was && false) ≡ false
both_false true = refl
both_false false = refl

-- a number is not a greater one
not_same : (m n : ℕ) → m < n → (m == n) ≡ false
not_same m n lt = grind (arith, nat_tests)

-- once some bytes were put, the sink is not settled
pub settled_more : (was now : Bool) (piece rest : List ℕ) (n : ℕ) → 0 < n → n ≤ length rest → length rest ≤ length piece → now ≡ false
    → now ≡ (was && (length (take (length rest - n) (drop n rest)) == length piece))
settled_more was now piece rest n some le short e =
    let less : length (take (length rest - n) (drop n rest)) < length piece = simp (length-take, length-drop) (omega arith) in
    e ∙ sym (ap (λ b. was && b) (not_same (length (take (length rest - n) (drop n rest))) (length piece) less) ∙ both_false was)
