-- A part of keepers that take turns is edited.
use Rattle.std.proofs.Common.{◌∙◌, ◌≡◌, ℕ, zero, suc, ◌<◌, ◌≤◌, ◌^◌, List, [], ◌∷◌, length, map, set, slice_index_or, None, refl, sym, ap, arith, subst}
use Rattle.std.specs.List.{insert, remove}
use Rattle.std.proofs.lemmas.List.{map-set, get_or-map, length-map}
use Rattle.sk_base.specs.Numbers.{Docs}
use Rattle.sk_base.specs.declared.doc.Doc.{Doc}
use Rattle.sk_sorted.specs.Entries.{RiseAbove, LieBelow, put, without, found}
use Rattle.sk_sorted.proofs.EntryLaws.{LieBelow-put, LieBelow-without, RiseAbove-put, RiseAbove-without}
use Rattle.sk_sorted.specs.Joined.{joined, part_of, own_id, part_at, AllRise}
use Rattle.sk_sorted.proofs.JoinedIdLaws.{part_below}
use Rattle.sk_sorted.proofs.JoinedLaws.{found-joined, joined-put, joined-without, all-at, all-set}
use Rattle.sk_documents.specs.Turned.{AreTurns}

module _ {K : Type 0} where
  -- what was taken out and put in again
  pub put_back : (xs : List K) (i : ℕ) (y : K) → i < length xs → insert (remove xs i) i y ≡ set xs i y
  put_back [] i y l = absurd (omega (arith, l))
  put_back (x ∷ xs) zero y l = refl
  put_back (x ∷ xs) (suc i) y l = ap (λ ys. x ∷ ys) (put_back xs i y (omega (arith, l)))

  length-set_of : (xs : List K) (i : ℕ) (y : K) → length (set xs i y) ≡ length xs
  length-set_of [] i y = refl
  length-set_of (x ∷ xs) zero y = refl
  length-set_of (x ∷ xs) (suc i) y = ap suc (length-set_of xs i y)

  module _ (documents : K → Docs) (parts : List K) (turns : AreTurns documents parts) (id : ℕ) (begun : 1 ≤ id) where
    abbrev pub all : List Docs
    all = map documents parts

    abbrev pub n : ℕ
    n = length parts

    long : length all ≡ n
    long = length-map parts documents

    pub below : part_of n id < n
    below = part_below n id turns.some

    own_docs : (d : K) → d ≡ slice_index_or parts (part_of n id) d → part_at all (part_of (length all) id) ≡ documents d
    own_docs d is = ap (λ m. part_at all (part_of m id)) long ∙ get_or-map documents parts (part_of n id) d [] below ∙ ap documents (sym is)

    -- what stands in the part is what stands in all
    pub there : (d : K) → d ≡ slice_index_or parts (part_of n id) d → found id (joined all) ≡ found (own_id n id) (documents d)
    there d is = found-joined id all begun turns.rise ∙ (λ i. found (own_id (long i) id) (own_docs d is i))

    edited : (d e : K) (f : Docs → Docs) → d ≡ slice_index_or parts (part_of n id) d → documents e ≡ f (documents d) → map documents (set parts (part_of n id) e) ≡ set all (part_of (length all) id) (f (part_at all (part_of (length all) id)))
    edited d e f is made =
        map-set documents parts (part_of n id) e
        ∙ (λ i. set all (part_of (sym long i) id) (made_at i))
      where
        made_at : documents e ≡ f (part_at all (part_of (length all) id))
        made_at = made ∙ ap f (sym (own_docs d is))

    pub put_into : (d e : K) (x : Doc) → d ≡ slice_index_or parts (part_of n id) d → documents e ≡ put (own_id n id) x (documents d)
        → joined (map documents (set parts (part_of n id) e)) ≡ put id x (joined all)
    put_into d e x is made =
        ap joined (edited d e (put (own_id (length all) id) x) is (made ∙ ap (λ m. put (own_id m id) x (documents d)) (sym long)))
        ∙ joined-put all (subst (λ m. 0 < m) (sym long) turns.some) turns.rise id begun x

    pub taken_from : (d e : K) → d ≡ slice_index_or parts (part_of n id) d → documents e ≡ without (own_id n id) (documents d)
        → joined (map documents (set parts (part_of n id) e)) ≡ without id (joined all)
    taken_from d e is made =
        ap joined (edited d e (without (own_id (length all) id)) is (made ∙ ap (λ m. without (own_id m id) (documents d)) (sym long)))
        ∙ joined-without all (subst (λ m. 0 < m) (sym long) turns.some) turns.rise id begun

    rises_at : (d : K) → d ≡ slice_index_or parts (part_of n id) d → RiseAbove 0 (documents d)
    rises_at d is = subst (RiseAbove 0) (own_docs d is) (all-at all (part_of (length all) id) turns.rise)

    still : (e : K) → RiseAbove 0 (documents e) → LieBelow (2 ^ 32) (joined (map documents (set parts (part_of n id) e))) → AreTurns documents (set parts (part_of n id) e)
    still e up low = record {
      some = let same = length-set_of parts (part_of n id) e in let some = turns.some in omega (arith, same, some);
      few = let same = length-set_of parts (part_of n id) e in let few = turns.few in omega (arith, same, few);
      rise = subst AllRise (sym (map-set documents parts (part_of n id) e)) (all-set (RiseAbove 0) all (part_of n id) (documents e) turns.rise up);
      small = low;
    }

    pub put_still : id < 2 ^ 32 → (d e : K) (x : Doc) → d ≡ slice_index_or parts (part_of n id) d → documents e ≡ put (own_id n id) x (documents d) → AreTurns documents (set parts (part_of n id) e)
    put_still small d e x is made =
        still e (subst (RiseAbove 0) (sym made) (RiseAbove-put 0 (own_id n id) x (documents d) (omega arith) (rises_at d is)))
        (subst (LieBelow (2 ^ 32)) (sym (put_into d e x is made)) (LieBelow-put (2 ^ 32) id x (joined all) small turns.small))

    pub taken_still : (d e : K) → d ≡ slice_index_or parts (part_of n id) d → documents e ≡ without (own_id n id) (documents d) → AreTurns documents (set parts (part_of n id) e)
    taken_still d e is made =
        still e (subst (RiseAbove 0) (sym made) (RiseAbove-without 0 (own_id n id) (documents d) (rises_at d is)))
        (subst (LieBelow (2 ^ 32)) (sym (taken_from d e is made)) (LieBelow-without (2 ^ 32) id (joined all) turns.small))

    -- ---- as the code has it
    module _ (m at own : ℕ) (many : m ≡ length parts) (turn : at ≡ part_of m id) (there_own : own ≡ own_id m id) (d : K) (taken : d ≡ slice_index_or parts at d) where
      at_is : at ≡ part_of n id
      at_is = turn ∙ ap (λ k. part_of k id) many

      own_is : own ≡ own_id n id
      own_is = there_own ∙ ap (λ k. own_id k id) many

      d_is : d ≡ slice_index_or parts (part_of n id) d
      d_is = subst (λ k. d ≡ slice_index_or parts k d) at_is taken

      pub at_below : at < length parts
      at_below = subst (λ k. k < length parts) (sym at_is) below

      pub free_there : found id (joined all) ≡ None → found own (documents d) ≡ None
      free_there free = ap (λ k. found k (documents d)) own_is ∙ sym (there d d_is) ∙ free

      pub same_there : found own (documents d) ≡ found id (joined all)
      same_there = ap (λ k. found k (documents d)) own_is ∙ sym (there d d_is)

      module _ (e : K) (x : Doc) (made : documents e ≡ put own x (documents d)) (now : List K) (is : now ≡ insert (remove parts at) at e) where
        now_is : now ≡ set parts (part_of n id) e
        now_is = is ∙ put_back parts at e at_below ∙ ap (λ k. set parts k e) at_is

        made_is : documents e ≡ put (own_id n id) x (documents d)
        made_is = made ∙ ap (λ k. put k x (documents d)) own_is

        pub put_made : joined (map documents now) ≡ put id x (joined all)
        put_made = ap (λ ks. joined (map documents ks)) now_is ∙ put_into d e x d_is made_is

        pub put_sound : id < 2 ^ 32 → AreTurns documents now
        put_sound small = subst (AreTurns documents) (sym now_is) (put_still small d e x d_is made_is)

      module _ (e : K) (made : documents e ≡ without own (documents d)) where
        set_is : set parts at e ≡ set parts (part_of n id) e
        set_is = ap (λ k. set parts k e) at_is

        without_is : documents e ≡ without (own_id n id) (documents d)
        without_is = made ∙ ap (λ k. without k (documents d)) own_is

        pub taken_made : joined (map documents (set parts at e)) ≡ without id (joined all)
        taken_made = ap (λ ks. joined (map documents ks)) set_is ∙ taken_from d e d_is without_is

        pub taken_sound : AreTurns documents (set parts at e)
        taken_sound = subst (AreTurns documents) (sym set_is) (taken_still d e d_is without_is)
