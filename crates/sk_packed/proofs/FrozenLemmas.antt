-- The terms of a document in one list of numbers: each is found by its place, and what was put together is read back.
use Rattle.std.proofs.Common.{◌≡◌, ℕ, zero, suc, ◌+◌, ◌-◌, ◌*◌, ◌%◌, ◌<◌, ◌≤◌, ◌==◌, Bool, true, false, if◌then◌else◌, ltb, List, [], ◌∷◌, ◌++◌, length, map, get_or, take, drop, slice_range, sym, ap, subst, ◌∙◌, refl, arith}
use Rattle.std.specs.List.{range_with_len}
use Rattle.std.proofs.lemmas.Bool.{cond-true, cond-false, lt-ltb, le-ltb, eq-eqb, ne_eqb, eqb-true}
use Rattle.std.proofs.lemmas.List.{drop_at, drop-drop, get_or-drop, length-append, append-nil}
use Rattle.std.proofs.lemmas.List.FromFn.{length-map-range_with_len, get_or-map-range_with_len}
use Rattle.sk_base.proofs.Tests.{first_so, second_so}
use Rattle.sk_base.specs.Order.{ArePositions}
use Rattle.sk_packed.specs.declared.packed_terms.PackedTerm.{PackedTerm}
use Rattle.sk_packed.specs.Packed.{NumberedTerm, no_term, numbered_at, cut_positions, RiseTo, ArePlaced, IsPacked, are_plain, heads_of, wdfs_of, plain_words, told_words, words_of, term_count, begin_at, end_at, wdf_at, term_in, frozen, IsTold, IsFrozen}
use Rattle.sk_packed.proofs.PackedLemmas.{rise_le, part-append}

-- there are as many terms as the words say
pub length-frozen : (words : List ℕ) → length (frozen words) ≡ term_count words
length-frozen words = length-map-range_with_len (term_in words) 0 (term_count words)

module _ (items words : List ℕ) (same : words ≡ items) (now : List NumberedTerm) (i : ℕ) (kept : IsFrozen items) (view : frozen items ≡ now) (lt : i < length now) where
  sound : IsFrozen words
  sound = subst IsFrozen (sym same) kept

  same_view : frozen words ≡ now
  same_view = ap frozen same ∙ view

  -- the term is there
  there : i < term_count words
  there = omega (arith, ap length same_view, length-frozen words)

  -- its head stands in the words, as all heads do
  pub heads_inside : get_or words 0 0 ≤ length words
  heads_inside = sound.heads

  pub head_inside : 2 * i + 1 < length words
  head_inside = omega (arith, there, heads_inside)

  -- it is what the words say at its place
  pub term_is : term_in words i ≡ numbered_at now i
  term_is =
      sym (get_or-map-range_with_len (term_in words) 0 (term_count words) i i no_term there (omega arith)) ∙ ap (λ (w : List NumberedTerm). numbered_at w i) same_view

  -- its positions stand in the words
  pub told_is : IsTold words i
  told_is = sound.told i there

-- what is read of words whose end is known
read-drop : (words ws : List ℕ) (n i k : ℕ) → drop n words ≡ ws → n + i ≡ k → get_or words k 0 ≡ get_or ws i 0
read-drop words ws n i k e is = ap (λ (m : ℕ). get_or words m 0) (sym is) ∙ sym (get_or-drop n words i 0) ∙ ap (λ (w : List ℕ). get_or w i 0) e

drop-next : (words ws : List ℕ) (n i k : ℕ) → drop n words ≡ ws → n + i ≡ k → drop k words ≡ drop i ws
drop-next words ws n i k e is = ap (λ (m : ℕ). drop m words) (sym is) ∙ sym (drop-drop i n words) ∙ ap (drop i) e

-- the words at the i-th place are this term, whose positions begin at `from`
record IsLaid (words : List ℕ) (first from : ℕ) (one : PackedTerm) (i : ℕ) : Type 0 where
  begins : begin_at words i ≡ first + from
  numbered : get_or words (2 * i + 1) 0 ≡ one.number
  ends : end_at words i ≡ first + one.end
  weighed : wdf_at words i ≡ one.wdf

-- from the i-th place on they are these terms
abbrev AreLaid : List ℕ → ℕ → ℕ → List PackedTerm → ℕ → Type 0
AreLaid words first from [] i = Unit {0}
AreLaid words first from (one ∷ more) i = IsLaid words first from one i × AreLaid words first one.end more (i + 1)

module _ (words positions after : List ℕ) (first : ℕ) (behind : drop first words ≡ positions ++ after) where
  -- a part of the positions
  part-behind : (from to : ℕ) → from ≤ to → to ≤ length positions → slice_range words (first + from) (first + to) ≡ slice_range positions from to
  part-behind from to le inside =
      let size : (first + to) - (first + from) ≡ to - from = omega arith in
      (λ j. take (size j) ((sym (drop-drop from first words) ∙ ap (drop from) behind) j)) ∙ part-append positions after from to le inside

  part-laid : (from : ℕ) (one : PackedTerm) (i : ℕ) → IsLaid words first from one i → from ≤ one.end → one.end ≤ length positions → slice_range words (begin_at words i) (end_at words i) ≡ slice_range positions from one.end
  part-laid from one i laid le inside = (λ j. slice_range words (laid.begins j) (laid.ends j)) ∙ part-behind from one.end le inside

  -- the terms are read back
  cut-laid : (from : ℕ) (terms : List PackedTerm) (i : ℕ) → RiseTo from terms (length positions) → AreLaid words first from terms i
      → map (term_in words) (range_with_len i (length terms)) ≡ cut_positions from terms positions
  cut-laid from [] i r laid = refl
  cut-laid from (one ∷ more) i r laid =
      let part : slice_range words (begin_at words i) (end_at words i) ≡ slice_range positions from one.end = part-laid from one i laid.0 r.0 (rise_le one.end more (length positions) r.1) in
      (λ j. record { number = laid.0.numbered j; wdf = laid.0.weighed j; positions = part j } ∷ cut-laid one.end more (i + 1) r.1 laid.1 j)

  -- and their positions stand in the words
  told-laid : (from : ℕ) (terms : List PackedTerm) (i k j : ℕ) → RiseTo from terms (length positions) → AreLaid words first from terms i → ArePlaced (cut_positions from terms positions)
      → first + length positions ≤ length words → k < length terms → i + k ≡ j → IsTold words j
  told-laid from [] i k j r laid placed within lt is = absurd (omega arith)
  told-laid from (one ∷ more) i zero j r laid placed within lt is =
      let inside : one.end ≤ length positions = rise_le one.end more (length positions) r.1 in
      let here : i ≡ j = omega arith in
      subst (IsTold words) here (record {
        order = omega (arith, laid.0.begins, laid.0.ends, r.0);
        inside = omega (arith, laid.0.ends, inside);
        rising = subst ArePositions (sym (part-laid from one i laid.0 r.0 inside)) placed.0;
      })
  told-laid from (one ∷ more) i (suc k) j r laid placed within lt is = told-laid one.end more (i + 1) k j r.1 laid.1 placed.1 within (omega arith) (omega arith)

-- what the wdf at the i-th place is where the term stands there, for each of these terms
abbrev AreWeighed : List ℕ → ℕ → ℕ → List PackedTerm → ℕ → Type 0
AreWeighed words first from [] i = Unit {0}
AreWeighed words first from (one ∷ more) i = (begin_at words i ≡ first + from → end_at words i ≡ first + one.end → wdf_at words i ≡ one.wdf) × AreWeighed words first one.end more (i + 1)

-- by the positions alone
weighed-plain : (words : List ℕ) (first from : ℕ) (terms : List PackedTerm) (i : ℕ) → get_or words 0 0 % 2 ≡ 0 → are_plain from terms ≡ true → AreWeighed words first from terms i
weighed-plain words first from [] i even plain = tt
weighed-plain words first from (one ∷ more) i even plain =
    let here : one.wdf ≡ one.end - from = eqb-true one.wdf (one.end - from) (first_so (one.wdf == (one.end - from)) (are_plain one.end more) plain) in
    let next : are_plain one.end more ≡ true = second_so (one.wdf == (one.end - from)) (are_plain one.end more) plain in (
      λ b e. let many : end_at words i - begin_at words i ≡ one.wdf = omega (arith, b, e, here) in
          cond-true ((get_or words 0 0 % 2) == 0) (end_at words i - begin_at words i) (get_or words (get_or words (2 * term_count words) 0 + i) 0) (eq-eqb (get_or words 0 0 % 2) 0 even) ∙ many,
      weighed-plain words first one.end more (i + 1) even next,
    )

-- and as they are told
weighed-told : (words : List ℕ) (first from : ℕ) (terms : List PackedTerm) (i end : ℕ) → get_or words 0 0 % 2 ≡ 1 → get_or words (2 * term_count words) 0 ≡ end → drop (end + i) words ≡ wdfs_of terms → AreWeighed words first from terms i
weighed-told words first from [] i end odd ends rest = tt
weighed-told words first from (one ∷ more) i end odd ends rest = (
  λ b e.
      cond-false ((get_or words 0 0 % 2) == 0) (end_at words i - begin_at words i) (get_or words (get_or words (2 * term_count words) 0 + i) 0) (ne_eqb (get_or words 0 0 % 2) 0 (λ z. omega (arith, z, odd)))
      ∙ ap (λ (k : ℕ). get_or words (k + i) 0) ends
      ∙ read-drop words (wdfs_of (one ∷ more)) (end + i) 0 (end + i) rest (omega arith),
  weighed-told words first one.end more (i + 1) end odd ends (drop-next words (wdfs_of (one ∷ more)) (end + i) 1 (end + (i + 1)) rest (omega arith)),
)

module _ (words rest : List ℕ) (first to : ℕ) where
  -- where the positions of a term end, before other terms or as the last
  ends-at : (one : PackedTerm) (more : List PackedTerm) (i : ℕ) → RiseTo one.end more to → drop (2 * i + 2) words ≡ heads_of first one.end more ++ rest → 2 * (i + suc (length more)) ≤ get_or words 0 0
      → ((k : ℕ) → k + 1 ≡ i + suc (length more) → end_at words k ≡ first + to) → end_at words i ≡ first + one.end
  ends-at one [] i r heads below last = last i (omega arith) ∙ ap (λ (k : ℕ). first + k) (sym r)
  ends-at one (next ∷ more) i r heads below last =
      cond-true (ltb (2 * i + 2) (get_or words 0 0)) (get_or words (2 * i + 2) 0) (length words) (lt-ltb (2 * i + 2) (get_or words 0 0) (omega arith))
      ∙ read-drop words (heads_of first one.end (next ∷ more) ++ rest) (2 * i + 2) 0 (2 * i + 2) heads (omega arith)

  -- the heads tell the terms
  laid-heads : (from : ℕ) (terms : List PackedTerm) (i : ℕ) → RiseTo from terms to → drop (2 * i) words ≡ heads_of first from terms ++ rest → 2 * (i + length terms) ≤ get_or words 0 0
      → ((k : ℕ) → k + 1 ≡ i + length terms → end_at words k ≡ first + to) → AreWeighed words first from terms i → AreLaid words first from terms i
  laid-heads from [] i r heads below last weighed = tt
  laid-heads from (one ∷ more) i r heads below last weighed =
      let begins : begin_at words i ≡ first + from = read-drop words (heads_of first from (one ∷ more) ++ rest) (2 * i) 0 (2 * i) heads (omega arith) in
      let next : drop (2 * i + 2) words ≡ heads_of first one.end more ++ rest = drop-next words (heads_of first from (one ∷ more) ++ rest) (2 * i) 2 (2 * i + 2) heads refl in
      let ends : end_at words i ≡ first + one.end = ends-at one more i r.1 next below last in (
        record {
          begins = begins;
          numbered = read-drop words (heads_of first from (one ∷ more) ++ rest) (2 * i) 1 (2 * i + 1) heads refl;
          ends = ends;
          weighed = weighed.0 begins ends;
        },
        laid-heads one.end more (i + 1) r.1 (ap (λ (k : ℕ). drop k words) (omega arith) ∙ next) (omega arith) (λ k is. last k (omega arith)) weighed.1,
      )

-- two numbers a head
length-heads : (first from : ℕ) (terms : List PackedTerm) → length (heads_of first from terms) ≡ 2 * length terms
length-heads first from [] = refl
length-heads first from (one ∷ more) = omega (arith, length-heads first one.end more)

-- what was read back
record IsBack (words : List ℕ) (terms : List PackedTerm) (positions : List ℕ) : Type 0 where
  same : frozen words ≡ cut_positions 0 terms positions
  sound : IsFrozen words

module _ (terms : List PackedTerm) (positions : List ℕ) (packed : IsPacked terms positions) where
  back : (words after : List ℕ) (first : ℕ) → drop first words ≡ positions ++ after → get_or words 0 0 ≡ first → term_count words ≡ length terms → first + length positions ≤ length words → AreLaid words first 0 terms 0
      → IsBack words terms positions
  back words after first behind start count within laid = record {
    same = ap (λ (n : ℕ). map (term_in words) (range_with_len 0 n)) count ∙ cut-laid words positions after first behind 0 terms 0 packed.fill laid;
    sound = record {
      heads = omega arith;
      told = λ i lt. told-laid words positions after first behind 0 terms 0 i i packed.fill laid packed.placed within (omega arith) (omega arith);
    };
  }

-- no words are no term
back-none : (positions : List ℕ) → IsBack [] [] positions
back-none positions = record { same = refl; sound = record { heads = omega arith; told = λ i lt. absurd (omega arith) } }

-- the words of some terms
module _ (one : PackedTerm) (more : List PackedTerm) (positions : List ℕ) (packed : IsPacked (one ∷ more) positions) where
  abbrev terms : List PackedTerm
  terms = one ∷ more

  -- each wdf is the number of the positions
  back-plain : are_plain 0 terms ≡ true → IsBack (plain_words terms positions) terms positions
  back-plain plain =
      let first : ℕ = 2 * length terms in
      let words : List ℕ = plain_words terms positions in
      let many : length (heads_of first 0 terms) ≡ first = length-heads first 0 terms in
      let start : get_or words 0 0 ≡ first = omega arith in
      let total : length words ≡ first + length positions = length-append (heads_of first 0 terms) positions ∙ omega arith in
      back terms positions packed words [] first (drop_at (heads_of first 0 terms) positions first many ∙ sym (append-nil positions)) start (omega arith) (omega arith)
      (laid-heads words positions first (length positions) 0 terms 0 packed.fill refl (omega arith)
      (λ k at. cond-false (ltb (2 * k + 2) (get_or words 0 0)) (get_or words (2 * k + 2) 0) (length words) (le-ltb (2 * k + 2) (get_or words 0 0) (omega arith)) ∙ total)
      (weighed-plain words first 0 terms 0 (omega arith) plain))

  -- the wdfs are told
  back-told : IsBack (told_words terms positions) terms positions
  back-told =
      let first : ℕ = 2 * length terms + 1 in
      let end : ℕ = first + length positions in
      let words : List ℕ = told_words terms positions in
      let rest : List ℕ = end ∷ (positions ++ wdfs_of terms) in
      let many : length (heads_of first 0 terms) ≡ 2 * length terms = length-heads first 0 terms in
      let start : get_or words 0 0 ≡ first = omega arith in
      let count : term_count words ≡ length terms = omega arith in
      let total : length words ≡ 2 * length terms + suc (length positions + length (wdfs_of terms)) =
      length-append (heads_of first 0 terms) rest ∙ (λ j. many j + suc (length-append positions (wdfs_of terms) j)) in
      let heads : drop (2 * length terms) words ≡ rest = drop_at (heads_of first 0 terms) rest (2 * length terms) many in
      let behind : drop first words ≡ positions ++ wdfs_of terms = drop-next words rest (2 * length terms) 1 first heads refl in
      back terms positions packed words (wdfs_of terms) first behind start count (omega arith)
      (laid-heads words rest first (length positions) 0 terms 0 packed.fill refl (omega arith)
      (λ k at. cond-true (ltb (2 * k + 2) (get_or words 0 0)) (get_or words (2 * k + 2) 0) (length words) (lt-ltb (2 * k + 2) (get_or words 0 0) (omega arith))
      ∙ read-drop words rest (2 * length terms) 0 (2 * k + 2) heads (omega arith))
      (weighed-told words first 0 terms 0 end (omega arith) (read-drop words rest (2 * length terms) 0 (2 * term_count words) heads (omega arith))
      (ap (λ (k : ℕ). drop k words) (omega arith) ∙ drop-next words (positions ++ wdfs_of terms) first (length positions) end behind refl ∙ drop_at positions (wdfs_of terms) (length positions) refl)))

  back-some : (b : Bool) → are_plain 0 terms ≡ b → IsBack (if b then plain_words terms positions else told_words terms positions) terms positions
  back-some true plain = back-plain plain
  back-some false told = back-told

back-words : (terms : List PackedTerm) (positions : List ℕ) → IsPacked terms positions → IsBack (words_of terms positions) terms positions
back-words [] positions packed = back-none positions
back-words (one ∷ more) positions packed = back-some one more positions packed (are_plain 0 (one ∷ more)) refl

module _ (terms terms' : List PackedTerm) (positions positions' words : List ℕ) (packed : IsPacked terms positions)
    (same_terms : terms' ≡ terms) (same_positions : positions' ≡ positions) (made : words ≡ words_of terms' positions') where
  made_back : IsBack words terms positions
  made_back = subst (λ (w : List ℕ). IsBack w terms positions) (sym (made ∙ (λ j. words_of (same_terms j) (same_positions j)))) (back-words terms positions packed)

  -- words that were made of the terms are these
  pub frozen_is : (now : List NumberedTerm) → cut_positions 0 terms positions ≡ now → frozen words ≡ now
  frozen_is now view = made_back.same ∙ view

  pub frozen_sound : IsFrozen words
  frozen_sound = made_back.sound
