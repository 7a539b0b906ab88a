-- Terms that stand in one list of bytes: where each is, one more, and the first of them.
use Rattle.std.proofs.Common.{◌≡◌, ℕ, zero, suc, ◌+◌, ◌-◌, ◌<◌, ◌≤◌, List, [], ◌∷◌, ◌++◌, length, get_or, take, drop, map, slice_index, slice_range, lit<, sym, ap, subst, ◌∙◌, refl, arith}
use Rattle.std.proofs.lemmas.List.{take-append-le, drop-append-le, drop_at, drop-take, take-take, length-take-le, length-append, length-drop, length-map, get_or-map, get_or_read, map-append, take-map}
use Rattle.std.proofs.Math.Seq.{take-length}
use Rattle.sk_dict.specs.Terms.{term_at}
use Rattle.sk_dict.specs.Heads.{AreBytes, head_of}
use Rattle.sk_dict.specs.Cuts.{cut, start_at, RiseTo, IsPacked}

-- places that rise to a number begin below it
pub rise_le : (from : ℕ) (ends : List ℕ) (to : ℕ) → RiseTo from ends to → from ≤ to
rise_le from [] to r = omega arith
rise_le from (e ∷ ends) to r = omega (arith, r.0, rise_le e ends to r.1)

-- as many terms as ends
pub length-cut : (from : ℕ) (ends bytes : List ℕ) → length (cut from ends bytes) ≡ length ends
length-cut from [] bytes = refl
length-cut from (e ∷ ends) bytes = ap suc (length-cut e ends bytes)

-- where a term stands
pub term-cut : (from : ℕ) (ends bytes : List ℕ) (n : ℕ) → n < length ends → get_or (cut from ends bytes) n [] ≡ slice_range bytes (start_at from ends n) (get_or ends n 0)
term-cut from [] bytes n lt = absurd (omega arith)
term-cut from (e ∷ ends) bytes zero lt = refl
term-cut from (e ∷ ends) bytes (suc n) lt = term-cut e ends bytes n (omega arith)

-- it begins before it ends, and ends inside
pub record IsPart (from to total : ℕ) : Type 0 where
  pub rises : from ≤ to
  pub inside : to ≤ total

pub part_at : (from : ℕ) (ends : List ℕ) (to n : ℕ) → RiseTo from ends to → n < length ends → IsPart (start_at from ends n) (get_or ends n 0) to
part_at from [] to n r lt = absurd (omega arith)
part_at from (e ∷ ends) to zero r lt = record { rises = r.0; inside = rise_le e ends to r.1 }
part_at from (e ∷ ends) to (suc n) r lt = part_at e ends to n r.1 (omega arith)

-- the first begins where all begin
pub start-first : (from : ℕ) (ends : List ℕ) → start_at from ends 0 ≡ from
start-first from [] = refl
start-first from (e ∷ ends) = refl

-- each other one where the one before it ends
pub start-next : (from : ℕ) (ends : List ℕ) (n : ℕ) → n < length ends → start_at from ends (suc n) ≡ get_or ends n 0
start-next from [] n lt = absurd (omega arith)
start-next from (e ∷ ends) zero lt = start-first e ends
start-next from (e ∷ ends) (suc n) lt = start-next e ends n (omega arith)

-- the places do not pass the number to which they rise
pub start_le : (from : ℕ) (ends : List ℕ) (to n : ℕ) → RiseTo from ends to → start_at from ends n ≤ to
start_le from [] to n r = omega arith
start_le from (e ∷ ends) to zero r = omega (arith, r.0, rise_le e ends to r.1)
start_le from (e ∷ ends) to (suc n) r = start_le e ends to n r.1

-- the end of the first terms alone
pub start-take : (from : ℕ) (ends : List ℕ) (n : ℕ) → start_at from (take n ends) (length (take n ends)) ≡ start_at from ends n
start-take from ends zero = sym (start-first from ends)
start-take from [] (suc n) = refl
start-take from (e ∷ ends) (suc n) = start-take e ends n

-- a part does not change where bytes come behind
part-append : (bytes more : List ℕ) (from to : ℕ) → from ≤ to → to ≤ length bytes → slice_range (bytes ++ more) from to ≡ slice_range bytes from to
part-append bytes more from to le inside =
    let size : length (drop from bytes) ≡ length bytes - from = length-drop from bytes in
    ap (take (to - from)) (drop-append-le from bytes more (omega arith)) ∙ take-append-le (to - from) (drop from bytes) more (omega arith)

-- the part that the bytes behind are
part-last : (bytes more : List ℕ) (from to : ℕ) → from ≡ length bytes → to ≡ length bytes + length more → slice_range (bytes ++ more) from to ≡ more
part-last bytes more from to at end =
    let size : to - from ≡ length more = omega arith in
    ap (take (to - from)) (drop_at bytes more from (sym at)) ∙ ap (λ k. take k more) size ∙ take-length more

-- one term more
pub cut-push : (from : ℕ) (ends : List ℕ) (to e : ℕ) (bytes more : List ℕ) → RiseTo from ends to → to ≡ length bytes → e ≡ length bytes + length more
    → cut from (ends ++ e ∷ []) (bytes ++ more) ≡ cut from ends bytes ++ more ∷ []
cut-push from [] to e bytes more r is end = ap (λ t. t ∷ []) (part-last bytes more from e (r ∙ is) end)
cut-push from (x ∷ ends) to e bytes more r is end =
    let inside : x ≤ length bytes = omega (arith, rise_le x ends to r.1) in
    ap (λ t. t ∷ cut x (ends ++ e ∷ []) (bytes ++ more)) (part-append bytes more from x r.0 inside)
    ∙ ap (λ ts. slice_range bytes from x ∷ ts) (cut-push x ends to e bytes more r.1 is end)

rise-push : (from : ℕ) (ends : List ℕ) (to e : ℕ) → RiseTo from ends to → to ≤ e → RiseTo from (ends ++ e ∷ []) e
rise-push from [] to e r le = (omega arith, refl)
rise-push from (x ∷ ends) to e r le = (r.0, rise-push x ends to e r.1 le)

-- a part does not change where what stands behind it goes
part-take : (bytes : List ℕ) (from to end : ℕ) → from ≤ to → to ≤ end → slice_range (take end bytes) from to ≡ slice_range bytes from to
part-take bytes from to end le inside =
    let sum : end ≡ from + (end - from) = omega arith in
    ap (take (to - from)) (ap (λ k. drop from (take k bytes)) sum ∙ drop-take from (end - from) bytes) ∙ take-take (to - from) (end - from) (drop from bytes) (omega arith)

rise-take : (from : ℕ) (ends : List ℕ) (to n : ℕ) → RiseTo from ends to → RiseTo from (take n ends) (start_at from ends n)
rise-take from ends to zero r = sym (start-first from ends)
rise-take from [] to (suc n) r = refl
rise-take from (e ∷ ends) to (suc n) r = (r.0, rise-take e ends to n r.1)

-- the terms of the first bytes alone
cut-bytes : (from : ℕ) (ends : List ℕ) (to : ℕ) (bytes : List ℕ) → RiseTo from ends to → cut from ends (take to bytes) ≡ cut from ends bytes
cut-bytes from [] to bytes r = refl
cut-bytes from (e ∷ ends) to bytes r =
    ap (λ t. t ∷ cut e ends (take to bytes)) (part-take bytes from e to r.0 (rise_le e ends to r.1)) ∙ ap (λ ts. slice_range bytes from e ∷ ts) (cut-bytes e ends to bytes r.1)

-- the first terms
cut-take : (from : ℕ) (ends bytes : List ℕ) (n : ℕ) → cut from (take n ends) bytes ≡ take n (cut from ends bytes)
cut-take from ends bytes zero = refl
cut-take from [] bytes (suc n) = refl
cut-take from (e ∷ ends) bytes (suc n) = ap (λ ts. slice_range bytes from e ∷ ts) (cut-take e ends bytes n)

-- what stands in two lists of bytes are bytes
bytes-append : (xs ys : List ℕ) → AreBytes xs → AreBytes ys → (i : ℕ) → slice_index (xs ++ ys) i < 256
bytes-append [] ys h k i = k i
bytes-append (x ∷ xs) ys h k zero = h 0
bytes-append (x ∷ xs) ys h k (suc i) = bytes-append xs ys (λ j. h (suc j)) k i

-- and in a part of one
bytes-take : (n : ℕ) (xs : List ℕ) → AreBytes xs → (i : ℕ) → slice_index (take n xs) i < 256
bytes-take zero xs h i = lit< tt
bytes-take (suc n) [] h i = lit< tt
bytes-take (suc n) (x ∷ xs) h zero = h 0
bytes-take (suc n) (x ∷ xs) h (suc i) = bytes-take n xs (λ j. h (suc j)) i

bytes-drop : (n : ℕ) (xs : List ℕ) → AreBytes xs → (i : ℕ) → slice_index (drop n xs) i < 256
bytes-drop zero xs h i = h i
bytes-drop (suc n) [] h i = lit< tt
bytes-drop (suc n) (x ∷ xs) h i = bytes-drop n xs (λ j. h (suc j)) i

-- there are no terms
pub packed-none : IsPacked [] [] []
packed-none = record { small = λ i. lit< tt; rise = refl; heads_are = refl }

module _ (bytes ends heads : List ℕ) (now : List (List ℕ)) (n : ℕ) (p : IsPacked bytes ends heads) (is : cut 0 ends bytes ≡ now) (lt : n < length now) where
  -- the term has an end
  pub has_end : n < length ends
  has_end = omega (arith, ap length is, length-cut 0 ends bytes)

  -- the term by its place
  term_is : term_at now n ≡ slice_range bytes (start_at 0 ends n) (get_or ends n 0)
  term_is = ap (λ w. term_at w n) (sym is) ∙ term-cut 0 ends bytes n has_end

  -- by what was read of it
  pub read_part : (seen behind : List ℕ) (start end : ℕ) → seen ≡ bytes → behind ≡ ends → start ≡ start_at 0 behind n → end ≡ get_or ends n end → slice_range seen start end ≡ term_at now n
  read_part seen behind start end same_bytes same_ends begins ends_at =
      ap (λ w. slice_range w start end) same_bytes ∙ ap (λ k. slice_range bytes k end) (begins ∙ ap (λ w. start_at 0 w n) same_ends)
      ∙ ap (λ k. slice_range bytes (start_at 0 ends n) k) (get_or_read ends n end has_end ends_at 0) ∙ sym term_is

  -- it stands inside
  pub read_inside : (seen behind : List ℕ) (start end : ℕ) → seen ≡ bytes → behind ≡ ends → start ≡ start_at 0 behind n → end ≡ get_or ends n end → IsPart start end (length seen)
  read_inside seen behind start end same_bytes same_ends begins ends_at =
      let part : IsPart (start_at 0 ends n) (get_or ends n 0) (length bytes) = part_at 0 ends (length bytes) n p.rise has_end in
      let first : start ≡ start_at 0 ends n = begins ∙ ap (λ w. start_at 0 w n) same_ends in
      let last : end ≡ get_or ends n 0 = get_or_read ends n end has_end ends_at 0 in
      let size : length seen ≡ length bytes = ap length same_bytes in
      record { rises = omega (arith, part.rises); inside = omega (arith, part.inside) }

  -- the head that was read is the term's
  pub read_head : (own : ℕ) → own ≡ get_or heads n own → own ≡ head_of (term_at now n)
  read_head own read =
      let there : n < length (cut 0 ends bytes) = omega (arith, ap length is) in
      let size : length heads ≡ length (cut 0 ends bytes) = ap length p.heads_are ∙ length-map (cut 0 ends bytes) head_of in
      get_or_read heads n own (omega arith) read 0 ∙ ap (λ w. get_or w n 0) p.heads_are ∙ get_or-map head_of (cut 0 ends bytes) n [] 0 there ∙ ap (λ w. head_of (term_at w n)) is

  -- and a head can be had, as the term is of bytes
  pub has_head : n < length heads
  has_head = omega (arith, ap length is, ap length p.heads_are, length-map (cut 0 ends bytes) head_of)

  pub term_small : AreBytes (term_at now n)
  term_small = subst AreBytes (sym term_is) (bytes-take (get_or ends n 0 - start_at 0 ends n) (drop (start_at 0 ends n) bytes) (bytes-drop (start_at 0 ends n) bytes p.small))

-- a term was put last
pub terms-push : (bytes ends heads term bytes' ends' : List ℕ) (e : ℕ) → IsPacked bytes ends heads → bytes' ≡ bytes ++ term → ends' ≡ ends ++ e ∷ [] → e ≡ length bytes'
    → cut 0 ends' bytes' ≡ cut 0 ends bytes ++ term ∷ []
terms-push bytes ends heads term bytes' ends' e p is_bytes is_ends end =
    let size : e ≡ length bytes + length term = end ∙ ap length is_bytes ∙ length-append bytes term in
    ap (λ w. cut 0 w bytes') is_ends ∙ ap (λ w. cut 0 (ends ++ e ∷ []) w) is_bytes ∙ cut-push 0 ends (length bytes) e bytes term p.rise refl size

pub packed-push : (bytes ends heads term bytes' ends' heads' : List ℕ) (e head : ℕ) → IsPacked bytes ends heads → bytes' ≡ bytes ++ term → ends' ≡ ends ++ e ∷ [] → heads' ≡ heads ++ head ∷ []
    → e ≡ length bytes' → head ≡ head_of term → AreBytes term → IsPacked bytes' ends' heads'
packed-push bytes ends heads term bytes' ends' heads' e head p is_bytes is_ends is_heads end same small =
    let size : e ≡ length bytes + length term = end ∙ ap length is_bytes ∙ length-append bytes term in
    let terms : cut 0 ends' bytes' ≡ cut 0 ends bytes ++ term ∷ [] = terms-push bytes ends heads term bytes' ends' e p is_bytes is_ends end in
    record {
      small = subst AreBytes (sym is_bytes) (bytes-append bytes term p.small small);
      rise = subst (λ k. RiseTo 0 ends' k) end (subst (λ w. RiseTo 0 w e) (sym is_ends) (rise-push 0 ends (length bytes) e p.rise (omega arith)));
      heads_are = is_heads ∙ ap (λ w. w ++ head ∷ []) p.heads_are ∙ ap (λ h. map head_of (cut 0 ends bytes) ++ h ∷ []) same
          ∙ sym (map-append head_of (cut 0 ends bytes) (term ∷ [])) ∙ ap (map head_of) (sym terms);
    }

-- the first terms are left
pub terms-take : (bytes ends heads bytes' ends' : List ℕ) (n e : ℕ) → IsPacked bytes ends heads → bytes' ≡ take e bytes → ends' ≡ take n ends → e ≡ start_at 0 ends' (length ends')
    → cut 0 ends' bytes' ≡ take n (cut 0 ends bytes)
terms-take bytes ends heads bytes' ends' n e p is_bytes is_ends end =
    let at : e ≡ start_at 0 ends n = end ∙ ap (λ w. start_at 0 w (length w)) is_ends ∙ start-take 0 ends n in
    ap (λ w. cut 0 w bytes') is_ends ∙ ap (λ w. cut 0 (take n ends) w) (is_bytes ∙ ap (λ k. take k bytes) at)
    ∙ cut-bytes 0 (take n ends) (start_at 0 ends n) bytes (rise-take 0 ends (length bytes) n p.rise) ∙ cut-take 0 ends bytes n

pub packed-take : (bytes ends heads bytes' ends' heads' : List ℕ) (n e : ℕ) → IsPacked bytes ends heads → bytes' ≡ take e bytes → ends' ≡ take n ends → heads' ≡ take n heads
    → e ≡ start_at 0 ends' (length ends') → IsPacked bytes' ends' heads'
packed-take bytes ends heads bytes' ends' heads' n e p is_bytes is_ends is_heads end =
    let at : e ≡ start_at 0 ends n = end ∙ ap (λ w. start_at 0 w (length w)) is_ends ∙ start-take 0 ends n in
    let inside : start_at 0 ends n ≤ length bytes = start_le 0 ends (length bytes) n p.rise in
    let size : length bytes' ≡ start_at 0 ends n = ap length (is_bytes ∙ ap (λ k. take k bytes) at) ∙ length-take-le (start_at 0 ends n) bytes inside in
    record {
      small = subst AreBytes (sym is_bytes) (bytes-take e bytes p.small);
      rise = subst (λ k. RiseTo 0 ends' k) (sym size) (subst (λ w. RiseTo 0 w (start_at 0 ends n)) (sym is_ends) (rise-take 0 ends (length bytes) n p.rise));
      heads_are = is_heads ∙ ap (take n) p.heads_are ∙ take-map head_of n (cut 0 ends bytes) ∙ ap (map head_of) (sym (terms-take bytes ends heads bytes' ends' n e p is_bytes is_ends end));
    }
