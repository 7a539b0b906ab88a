-- Laws of one search.
use Rattle.std.proofs.Common.{◌≡◌, ◌≤◌, ◌<◌, ◌+◌, ◌-◌, ℕ, true, false, min, nat_lt, [], ◌∷◌, ◌++◌, refl, ap, sym, ◌∙◌, subst, arith}
use Rattle.std.proofs.lemmas.Bool.Decides.{nat_tests}
use Rattle.std.specs.Ordering.{nat_cmp}
use Rattle.std.specs.BTreeMap.{insert_entry}
use Rattle.sk_sorted.specs.Entries.{RiseAbove, LieBelow}
use Rattle.sk_sorted.proofs.EntryLaws.{put-last}
use Rattle.sk_base.specs.declared.doc.Doc.{Doc}
use Rattle.sk_base.specs.Commands.{FitsTurns}
use Rattle.sk_base.specs.Numbers.{Docs}
use Rattle.sk_report.specs.Flights.{Open, Turned}
use Rattle.sk_reference.specs.Searches.{Stands, due, moves, turned}

-- ---- the copy of the documents

-- what stands before an entry has lower ids
before : (low : ℕ) (e : ℕ × Doc) (ds es : Docs) → RiseAbove low (ds ++ e ∷ es) → (low < e.0) × LieBelow e.0 ds
before low e [] es up = (up.0, tt)
before low e (d ∷ ds) es up = let more : (d.0 < e.0) × LieBelow e.0 ds = before d.0 e ds es up.1 in (omega (arith, up.0, more.0), (more.0, more.1))

-- one document more was copied
pub copied : (id : ℕ) (doc twin : Doc) (done new left rest all : Docs) → new ≡ insert_entry nat_cmp done id twin → twin ≡ doc → left ≡ (id, doc) ∷ rest
    → done ++ left ≡ all → RiseAbove 0 all → new ++ rest ≡ all
copied id doc twin done new left rest all put same next parts up =
    ap (λ (docs : Docs). docs ++ rest) (put ∙ ap (λ (d : Doc). insert_entry nat_cmp done id d) same ∙ put-last id doc done below) ∙ joined done ∙ whole
  where
    whole : done ++ (id, doc) ∷ rest ≡ all
    whole = ap (λ (docs : Docs). done ++ docs) (sym next) ∙ parts

    below : LieBelow id done
    below = (before 0 (id, doc) done rest (subst (λ docs. RiseAbove 0 docs) (sym whole) up)).1

    joined : (ds : Docs) → (ds ++ (id, doc) ∷ []) ++ rest ≡ ds ++ (id, doc) ∷ rest
    joined [] = refl
    joined (d ∷ ds) = ap (λ (more : Docs). d ∷ more) (joined ds)

-- ---- turns

-- so many turns are those that the rules ask for
pub turned_turns : (times : ℕ) (one : Open) → FitsTurns times → Stands one → Stands (turned times one) → Turned Stands times one (turned times one)
turned_turns times one fits stands after = record {
  seeks = record { paging = refl; query = refl; documents = refl };
  made = moves times one;
  counted = refl;
  all = λ going. all_made (moves times one) times made_few going;
  fewer = λ done. some_made (moves times one) times done;
  after = λ done. (none_made done, few_made (moves times one) times (none_made done) fits.some);
  idle = λ none. refl;
  later = omega arith;
  may = after;
}
  where
    made_few : moves times one ≤ times
    made_few = omega arith

    all_made : (made times : ℕ) → made ≤ times → nat_lt made times ≡ false → made ≡ times
    all_made made times few going = grind (arith, nat_tests)

    some_made : (made times : ℕ) → nat_lt made times ≡ true → made < times
    some_made made times done = grind (arith, nat_tests)

    none_made : one.done ≡ true → moves times one ≡ 0
    none_made done = let same : one.turns ≡ due one = stands.ended done in omega (arith, same)

    few_made : (made times : ℕ) → made ≡ 0 → 1 ≤ times → nat_lt made times ≡ true
    few_made made times none some = grind (arith, nat_tests)
