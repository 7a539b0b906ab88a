-- What stands in parts, under joined ids: what is found, and that ids rise. Both decide which list it is.
use Rattle.std.proofs.Common.{◌∙◌, ◌≡◌, ◌≢◌, ℕ, zero, suc, Bool, true, false, cond, ◌+◌, ◌-◌, ◌==◌, nat_le, ◌<◌, ◌≤◌, ◌⊎◌, inl, inr, List, [], ◌∷◌, length, set, Option, None, Some, refl, sym, ap, arith, subst}
use Rattle.std.specs.List.{AllByRecursion}
use Rattle.std.specs.Option.{option_or}
use Rattle.std.proofs.lemmas.Bool.{cases_eq, cases_order, cases_lt, le-leb, lt-leb}
use Rattle.std.proofs.lemmas.Bool.Decides.{nat_tests}
use Rattle.std.proofs.lemmas.List.{get_or-set_same, get_or-set_other}
use Rattle.sk_sorted.specs.Entries.{RiseAbove, put, without, found}
use Rattle.sk_sorted.proofs.EntryLaws.{RiseAbove-put, RiseAbove-without, found-here, found-other, found-put, found-put_other, found-without, found-without_other, found-below}
use Rattle.sk_sorted.specs.Joined.{joined_id, part_of, own_id, under, put_all, joined_from, joined, part_at, AllRise}
use Rattle.sk_sorted.proofs.JoinedIdLaws.{own-joined, part-joined, joined-own, part_below}

module _ {X : Type 0} where
  abbrev the_none : Option X
  the_none = None

  -- ---- two lists that rise and hold the same are one list
  pub same_entries : (low : ℕ) (es fs : List (ℕ × X)) → RiseAbove low es → RiseAbove low fs → ((id : ℕ) → found id es ≡ found id fs) → es ≡ fs
  same_entries low [] [] up down same = refl
  same_entries low [] (f ∷ fs) up down same = absurd (none (same f.0 ∙ found-here f.0 f fs refl))
    where
      none : None ≡ Some f.1 → ⊥
      none e = cc
  same_entries low (e ∷ es) [] up down same = absurd (none (sym (found-here e.0 e es refl) ∙ same e.0))
    where
      none : Some e.1 ≡ None → ⊥
      none e = cc
  same_entries low (e ∷ es) (f ∷ fs) up down same = by_order (same_entries e.0 es fs up.1) (cases_order e.0 f.0)
    where
      gone : {y : X} → Some y ≡ None → ⊥
      gone e = cc

      some : {x y : X} → Some x ≡ Some y → x ≡ y
      some e = cc

      both : e.0 ≡ f.0 → e ≡ f
      both is = let own = some (sym (found-here e.0 e es refl) ∙ same e.0 ∙ found-here e.0 f fs (sym is)) in (λ i. (is i, own i))

      behind : e.0 ≡ f.0 → (id : ℕ) → found id es ≡ found id fs
      behind is id = by_id (cases_lt e.0 id)
        where
          by_id : (e.0 < id) ⊎ (id ≤ e.0) → found id es ≡ found id fs
          by_id (inl l) = sym (found-other id e es (λ s. absurd (omega (arith, l, s)))) ∙ same id ∙ found-other id f fs (λ s. absurd (omega (arith, l, s, is)))
          by_id (inr l) = found-below e.0 id es l up.1 ∙ sym (found-below f.0 id fs (omega (arith, l, is)) down.1)

      by_order : (RiseAbove e.0 fs → ((id : ℕ) → found id es ≡ found id fs) → es ≡ fs) → (e.0 ≡ f.0) ⊎ ((e.0 < f.0) ⊎ (f.0 < e.0)) → e ∷ es ≡ f ∷ fs
      by_order tail (inl is) =
          let rest = tail (subst (λ n. RiseAbove n fs) (sym is) down.1) (behind is) in
          (λ i. both is i ∷ rest i)
      by_order tail (inr (inl l)) =
          absurd (gone (sym (found-here e.0 e es refl) ∙ same e.0 ∙ found-other e.0 f fs (λ s. absurd (omega (arith, l, s))) ∙ found-below f.0 e.0 fs (omega (arith, l)) down.1))
      by_order tail (inr (inr l)) =
          absurd (gone (sym (found-here f.0 f fs refl) ∙ sym (same f.0) ∙ found-other f.0 e es (λ s. absurd (omega (arith, l, s))) ∙ found-below e.0 f.0 es (omega (arith, l)) up.1))

  -- ---- what is found
  pub found-put_all : (id : ℕ) (es fs : List (ℕ × X)) → found id (put_all es fs) ≡ option_or (found id es) (found id fs)
  found-put_all id [] fs = refl
  found-put_all id (e ∷ es) fs = by_id (found-put_all id es fs) (cases_eq e.0 id)
    where
      by_id : found id (put_all es fs) ≡ option_or (found id es) (found id fs) → (e.0 ≡ id) ⊎ (e.0 ≡ id → ⊥) → found id (put e.0 e.1 (put_all es fs)) ≡ option_or (found id (e ∷ es)) (found id fs)
      by_id rest (inl is) = ap (λ n. found n (put e.0 e.1 (put_all es fs))) (sym is) ∙ found-put e.0 e.1 (put_all es fs) ∙ sym (ap (λ o. option_or o (found id fs)) (found-here id e es is))
      by_id rest (inr other) = found-put_other e.0 id e.1 (put_all es fs) other ∙ rest ∙ sym (ap (λ o. option_or o (found id fs)) (found-other id e es other))

  -- of a part
  pub found-under : (n part id low : ℕ) (es : List (ℕ × X)) → part < n → 1 ≤ id → RiseAbove low es
      → found id (under n part es) ≡ cond (part_of n id == part) (found (own_id n id) es) None
  found-under n part id low [] below begun up = none (part_of n id == part)
    where
      none : (b : Bool) → the_none ≡ cond b the_none the_none
      none true = refl
      none false = refl
  found-under n part id low (e ∷ es) below begun up = by_id (found-under n part id e.0 es below begun up.1) (cases_eq (joined_id n part e.0) id)
    where
      by_id : found id (under n part es) ≡ cond (part_of n id == part) (found (own_id n id) es) None → (joined_id n part e.0 ≡ id) ⊎ (joined_id n part e.0 ≡ id → ⊥)
          → found id ((joined_id n part e.0, e.1) ∷ under n part es) ≡ cond (part_of n id == part) (found (own_id n id) (e ∷ es)) None
      by_id rest (inl is) =
          let own : own_id n id ≡ e.0 = sym (ap (own_id n) is) ∙ own-joined n part e.0 below (omega (arith, up.0)) in
          let here : part_of n id ≡ part = sym (ap (part_of n) is) ∙ part-joined n part e.0 below in
          found-here id (joined_id n part e.0, e.1) (under n part es) is
          ∙ sym (ap (λ b. cond b (found (own_id n id) (e ∷ es)) None) (test here) ∙ found-here (own_id n id) e es (sym own))
        where
          test : part_of n id ≡ part → (part_of n id == part) ≡ true
          test s = grind (arith, nat_tests)
      by_id rest (inr other) =
          found-other id (joined_id n part e.0, e.1) (under n part es) other ∙ rest
          ∙ by_part (part_of n id == part) refl
        where
          there : (b : Bool) → (part_of n id == part) ≡ b → b ≡ true → part_of n id ≡ part
          there b s t = grind (arith, nat_tests)

          by_part : (b : Bool) → (part_of n id == part) ≡ b → cond b (found (own_id n id) es) None ≡ cond b (found (own_id n id) (e ∷ es)) None
          by_part true s =
              sym (found-other (own_id n id) e es (λ own. other (ap (joined_id n part) own ∙ sym (ap (λ p. joined_id n p (own_id n id)) (there true s refl)) ∙ joined-own n id begun)))
          by_part false s = refl

  -- of a part and those behind it
  split_parts : (p part own : ℕ) (es : List (ℕ × X)) (parts : List (List (ℕ × X))) → (p ≡ part) ⊎ ((p < part) ⊎ (part < p))
      → option_or (cond (p == part) (found own es) None) (cond (nat_le (part + 1) p) (found own (part_at parts (p - (part + 1)))) None)
      ≡ cond (nat_le part p) (found own (part_at (es ∷ parts) (p - part))) None
  split_parts p part own es parts (inl is) =
      (λ i. option_or (cond (same i) (found own es) None) (cond (behind i) (found own (part_at parts (p - (part + 1)))) None))
      ∙ or_none (found own es)
      ∙ sym ((λ i. cond (from_on i) (found own (part_at (es ∷ parts) (zeroth i))) None))
    where
      or_none : (o : Option X) → option_or o None ≡ o
      or_none None = refl
      or_none (Some x) = refl

      same : (p == part) ≡ true
      same = grind (arith, nat_tests, is)

      behind : nat_le (part + 1) p ≡ false
      behind = lt-leb (part + 1) p (omega (arith, is))

      from_on : nat_le part p ≡ true
      from_on = le-leb part p (omega (arith, is))

      zeroth : p - part ≡ 0
      zeroth = omega (arith, is)
  split_parts p part own es parts (inr (inl l)) =
      (λ i. option_or (cond (same i) (found own es) None) (cond (behind i) (found own (part_at parts (p - (part + 1)))) None))
      ∙ sym ((λ i. cond (from_on i) (found own (part_at (es ∷ parts) (p - part))) None))
    where
      same : (p == part) ≡ false
      same = grind (arith, nat_tests, l)

      behind : nat_le (part + 1) p ≡ false
      behind = lt-leb (part + 1) p (omega (arith, l))

      from_on : nat_le part p ≡ false
      from_on = lt-leb part p l
  split_parts p part own es parts (inr (inr l)) =
      (λ i. option_or (cond (same i) (found own es) None) (cond (behind i) (found own (part_at parts (p - (part + 1)))) None))
      ∙ sym ((λ i. cond (from_on i) (found own (part_at (es ∷ parts) (next i))) None))
    where
      same : (p == part) ≡ false
      same = grind (arith, nat_tests, l)

      behind : nat_le (part + 1) p ≡ true
      behind = le-leb (part + 1) p (omega (arith, l))

      from_on : nat_le part p ≡ true
      from_on = le-leb part p (omega (arith, l))

      next : p - part ≡ suc (p - (part + 1))
      next = omega (arith, l)

  -- of the parts from one on
  pub found-joined_from : (n part id : ℕ) (parts : List (List (ℕ × X))) → part + length parts ≤ n → 1 ≤ id → AllRise parts
      → found id (joined_from n part parts) ≡ cond (nat_le part (part_of n id)) (found (own_id n id) (part_at parts (part_of n id - part))) None
  found-joined_from n part id [] within begun up = none (nat_le part (part_of n id))
    where
      none : (b : Bool) → the_none ≡ cond b the_none the_none
      none true = refl
      none false = refl
  found-joined_from n part id (es ∷ parts) within begun up =
      found-put_all id (under n part es) (joined_from n (part + 1) parts)
      ∙ both (found-under n part id 0 es (omega (arith, within)) begun up.0) (found-joined_from n (part + 1) id parts (omega (arith, within)) begun up.1)
      ∙ split_parts (part_of n id) part (own_id n id) es parts (cases_order (part_of n id) part)
    where
      both : {o p o2 p2 : Option X} → o ≡ o2 → p ≡ p2 → option_or o p ≡ option_or o2 p2
      both a b = (λ i. option_or (a i) (b i))

  -- of all: what stands in its part under its own id
  pub found-joined : (id : ℕ) (parts : List (List (ℕ × X))) → 1 ≤ id → AllRise parts → found id (joined parts) ≡ found (own_id (length parts) id) (part_at parts (part_of (length parts) id))
  found-joined id parts begun up = found-joined_from (length parts) 0 id parts (omega arith) begun up ∙ (λ i. cond (from_on i) (found (own_id (length parts) id) (part_at parts (same i))) None)
    where
      from_on : nat_le 0 (part_of (length parts) id) ≡ true
      from_on = le-leb 0 (part_of (length parts) id) (omega arith)

      same : part_of (length parts) id - 0 ≡ part_of (length parts) id
      same = omega arith

  -- ---- ids rise
  rise-put_all : (low : ℕ) (es fs : List (ℕ × X)) → AllByRecursion (λ (e : ℕ × X). low < e.0) es → RiseAbove low fs → RiseAbove low (put_all es fs)
  rise-put_all low [] fs above up = up
  rise-put_all low (e ∷ es) fs above up = RiseAbove-put low e.0 e.1 (put_all es fs) above.0 (rise-put_all low es fs above.1 up)

  under-begun : (n part : ℕ) (es : List (ℕ × X)) → AllByRecursion (λ (e : ℕ × X). 0 < e.0) (under n part es)
  under-begun n part [] = tt
  under-begun n part (e ∷ es) = (omega arith, under-begun n part es)

  pub rise-joined_from : (n part : ℕ) (parts : List (List (ℕ × X))) → RiseAbove 0 (joined_from n part parts)
  rise-joined_from n part [] = tt
  rise-joined_from n part (es ∷ parts) = rise-put_all 0 (under n part es) (joined_from n (part + 1) parts) (under-begun n part es) (rise-joined_from n (part + 1) parts)

  pub rise-joined : (parts : List (List (ℕ × X))) → RiseAbove 0 (joined parts)
  rise-joined parts = rise-joined_from (length parts) 0 parts

  -- a list is that of all parts where it rises and each id has what its part has
  pub joined_by_found : (parts : List (List (ℕ × X))) (es : List (ℕ × X)) → AllRise parts → RiseAbove 0 es
      → ((id : ℕ) → 1 ≤ id → found id es ≡ found (own_id (length parts) id) (part_at parts (part_of (length parts) id))) → joined parts ≡ es
  joined_by_found parts es up rise same = same_entries 0 (joined parts) es (rise-joined parts) rise at
    where
      at : (id : ℕ) → found id (joined parts) ≡ found id es
      at zero = found-below 0 0 (joined parts) (omega arith) (rise-joined parts) ∙ sym (found-below 0 0 es (omega arith) rise)
      at (suc id) = found-joined (suc id) parts (omega arith) up ∙ sym (same (suc id) (omega arith))

  -- ---- edits
  pub all-set : (P : List (ℕ × X) → Type 0) (parts : List (List (ℕ × X))) (part : ℕ) (es : List (ℕ × X)) → AllByRecursion P parts → P es → AllByRecursion P (set parts part es)
  all-set P [] part es all own = tt
  all-set P (p ∷ parts) zero es all own = (own, all.1)
  all-set P (p ∷ parts) (suc part) es all own = (all.0, all-set P parts part es all.1 own)

  pub all-at : (parts : List (List (ℕ × X))) (part : ℕ) → AllRise parts → RiseAbove 0 (part_at parts part)
  all-at [] part all = tt
  all-at (p ∷ parts) zero all = all.0
  all-at (p ∷ parts) (suc part) all = all-at parts part all.1

  pub length-set_same : (parts : List (List (ℕ × X))) (part : ℕ) (es : List (ℕ × X)) → length (set parts part es) ≡ length parts
  length-set_same [] part es = refl
  length-set_same (p ∷ parts) zero es = refl
  length-set_same (p ∷ parts) (suc part) es = ap suc (length-set_same parts part es)

  -- the parts, one of which was edited
  module _ (parts : List (List (ℕ × X))) (some : 0 < length parts) (up : AllRise parts) (id : ℕ) (begun : 1 ≤ id) where
    abbrev pub n : ℕ
    n = length parts

    abbrev pub p : ℕ
    p = part_of n id

    abbrev pub own : ℕ
    own = own_id n id

    -- an own id of the part is that of the id alone
    only : (other : ℕ) → 1 ≤ other → part_of n other ≡ p → own_id n other ≡ own → other ≡ id
    only other l here same = sym (joined-own n other l) ∙ (λ i. joined_id n (here i) (same i)) ∙ joined-own n id begun

    pub joined-edit : (old new : List (ℕ × X)) (es : List (ℕ × X)) → part_at parts p ≡ old → RiseAbove 0 new → RiseAbove 0 es
        → found id es ≡ found own new
        → ((other : ℕ) → other ≢ own → found other new ≡ found other old)
        → ((other : ℕ) → other ≢ id → found other es ≡ found other (joined parts))
        → joined (set parts p new) ≡ es
    joined-edit old new es is rise rise_es here others apart_es =
        joined_by_found (set parts p new) es (all-set (RiseAbove 0) parts p new up rise) rise_es
        (λ other l. subst (λ m. found other es ≡ found (own_id m other) (part_at (set parts p new) (part_of m other))) (sym (length-set_same parts p new)) (at other l (cases_eq (part_of n other) p) (cases_eq (own_id n other) own)))
      where
        there : p < length parts
        there = part_below n id some

        mine : part_at (set parts p new) p ≡ new
        mine = get_or-set_same parts p new [] there

        at : (other : ℕ) → 1 ≤ other → (part_of n other ≡ p) ⊎ (part_of n other ≡ p → ⊥) → (own_id n other ≡ own) ⊎ (own_id n other ≡ own → ⊥)
            → found other es ≡ found (own_id n other) (part_at (set parts p new) (part_of n other))
        at other l (inl a) (inl b) =
            ap (λ m. found m es) (only other l a b) ∙ here ∙ sym ((λ i. found (b i) (part_at (set parts p new) (a i))) ∙ ap (found own) mine)
        at other l (inl a) (inr b) =
            apart_es other (λ same. b (ap (own_id n) same)) ∙ found-joined other parts l up
            ∙ ap (λ q. found (own_id n other) (part_at parts q)) a ∙ ap (found (own_id n other)) is
            ∙ sym (others (own_id n other) b)
            ∙ sym (ap (λ q. found (own_id n other) (part_at (set parts p new) q)) a ∙ ap (found (own_id n other)) mine)
        at other l (inr a) b =
            apart_es other (λ same. a (ap (part_of n) same)) ∙ found-joined other parts l up
            ∙ sym (ap (found (own_id n other)) (get_or-set_other parts p (part_of n other) new [] a))

    -- a document is put
    pub joined-put : (x : X) → joined (set parts p (put own x (part_at parts p))) ≡ put id x (joined parts)
    joined-put x =
        joined-edit (part_at parts p) (put own x (part_at parts p)) (put id x (joined parts)) refl
        (RiseAbove-put 0 own x (part_at parts p) (omega arith) (all-at parts p up))
        (RiseAbove-put 0 id x (joined parts) (omega (arith, begun)) (rise-joined parts))
        (found-put id x (joined parts) ∙ sym (found-put own x (part_at parts p)))
        (λ other d. found-put_other own other x (part_at parts p) (λ e. d (sym e)))
        (λ other d. found-put_other id other x (joined parts) (λ e. d (sym e)))

    -- a document is removed
    pub joined-without : joined (set parts p (without own (part_at parts p))) ≡ without id (joined parts)
    joined-without =
        joined-edit (part_at parts p) (without own (part_at parts p)) (without id (joined parts)) refl
        (RiseAbove-without 0 own (part_at parts p) (all-at parts p up))
        (RiseAbove-without 0 id (joined parts) (rise-joined parts))
        (found-without 0 id (joined parts) (rise-joined parts) ∙ sym (found-without 0 own (part_at parts p) (all-at parts p up)))
        (λ other d. found-without_other own other (part_at parts p) (λ e. d (sym e)))
        (λ other d. found-without_other id other (joined parts) (λ e. d (sym e)))
