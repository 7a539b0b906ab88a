-- Laws of sound documents.
use Rattle.std.proofs.Common.{◌≡◌, None, ap, sym, ◌∙◌, append-nil, ℕ, ◌+◌, ◌<◌, ◌≤◌, ◌^◌, max, [], ◌∷◌, length, All, AllPairs, arith}
use Rattle.std.specs.List.{AllByRecursion}
use Rattle.std.proofs.lemmas.List.Elements.{All-from_recursion}
use Rattle.std.proofs.lemmas.List.Kept.{AllPairs-cons}
use Rattle.sk_sorted.specs.Entries.{RiseAbove, LieBelow, AreSorted}
use Rattle.sk_sorted.proofs.EntryLaws.{RiseAbove-put, LieBelow-put, RiseAbove-without, LieBelow-without, LieBelow-higher, AllByRecursion-put, AllByRecursion-without, length_fits, found-append}
use Rattle.sk_base.specs.Documents.{AreTerms}
use Rattle.sk_base.specs.Loads.{IsLight}
use Rattle.sk_base.specs.Numbers.{Docs}
use Rattle.sk_model.specs.Documents.{Document}
use Rattle.sk_model.specs.Edits.{Live, IsLive, last_id, document_at, put_document, without_id}
use Rattle.sk_documents.specs.Documented.{HasTerms, IsSoundLive}

-- with a document more
pub AreSound-put : (docs : Docs) (highest id : ℕ) (d : Document) → 1 ≤ id → id ≤ last_id → AreTerms d.terms → IsLight (id, d)
    → IsSoundLive (record { documents = docs; highest = highest }) → IsSoundLive (record { documents = put_document id d docs; highest = max highest id })
AreSound-put docs highest id d first last terms light sound = record {
  rise = RiseAbove-put 0 id d docs (omega arith) sound.rise;
  used = LieBelow-put (max highest id + 1) id d docs (omega arith) (LieBelow-higher (highest + 1) (max highest id + 1) docs (omega arith) sound.used);
  within = let le = sound.within in omega (arith, le, last);
  terms = AllByRecursion-put HasTerms id d docs terms sound.terms;
  light = AllByRecursion-put IsLight id d docs light sound.light;
}

-- without a document
pub AreSound-without : (docs : Docs) (highest id : ℕ) → IsSoundLive (record { documents = docs; highest = highest }) → IsSoundLive (record { documents = without_id id docs; highest = highest })
AreSound-without docs highest id sound = record {
  rise = RiseAbove-without 0 id docs sound.rise;
  used = LieBelow-without (highest + 1) id docs sound.used;
  within = sound.within;
  terms = AllByRecursion-without HasTerms id docs sound.terms;
  light = AllByRecursion-without IsLight id docs sound.light;
}

-- sound documents are sorted entries
pub sound-sorted : (live : Live) → IsSoundLive live → AreSorted live.documents
sound-sorted live sound = record { rise = sound.rise; small = let le = sound.within in LieBelow-higher (live.highest + 1) (2 ^ 32) live.documents (omega (arith, le)) sound.used }

-- there are fewer documents than ids
pub sound-few : (live : Live) → IsSoundLive live → length live.documents < 2 ^ 32
sound-few live sound = length_fits live.documents (sound-sorted live sound)

-- each id is above the bound
ids_above : (low : ℕ) (docs : Docs) → RiseAbove low docs → AllByRecursion (λ (one : ℕ × Document). low < one.0) docs
ids_above low [] up = tt
ids_above low (one ∷ more) up = (up.0, later one.0 low more (omega (arith, up.0)) (ids_above one.0 more up.1))
  where
    later : (high low : ℕ) (docs : Docs) → low ≤ high → AllByRecursion (λ (one : ℕ × Document). high < one.0) docs → AllByRecursion (λ (one : ℕ × Document). low < one.0) docs
    later high low [] le all = tt
    later high low (one ∷ more) le all = (omega (arith, all.0), later high low more le all.1)

-- each id is one that was used
ids_used : (highest : ℕ) (docs : Docs) → LieBelow (highest + 1) docs → AllByRecursion (λ (one : ℕ × Document). one.0 ≤ highest) docs
ids_used highest [] below = tt
ids_used highest (one ∷ more) below = (omega (arith, below.0), ids_used highest more below.1)

-- of two documents the later has the greater id
ids_rise : (low : ℕ) (docs : Docs) → RiseAbove low docs → AllPairs (λ a b. a.0 < b.0) docs
ids_rise low [] up = λ i j d before lt. absurd (omega arith)
ids_rise low (one ∷ more) up =
    AllPairs-cons (λ (a b : ℕ × Document). a.0 < b.0) one more (All-from_recursion (λ (b : ℕ × Document). one.0 < b.0) more (ids_above one.0 more up.1)) (ids_rise one.0 more up.1)

-- so they are live documents
pub sound-IsLive : (live : Live) → IsSoundLive live → IsLive live
sound-IsLive live sound = record {
  rising = ids_rise 0 live.documents sound.rise;
  begun = λ k d lt. let first = All-from_recursion (λ (one : ℕ × Document). 0 < one.0) live.documents (ids_above 0 live.documents sound.rise) k d lt in omega (arith, first);
  used = All-from_recursion (λ (one : ℕ × Document). one.0 ≤ live.highest) live.documents (ids_used live.highest live.documents sound.used);
  within = sound.within;
}

-- and light
pub sound-light : (live : Live) → IsSoundLive live → All IsLight live.documents
sound-light live sound = All-from_recursion IsLight live.documents sound.light

-- no document has the next id
pub next-free : (live : Live) → IsSoundLive live → document_at (live.highest + 1) live.documents ≡ None
next-free live sound =
    ap (document_at (live.highest + 1)) (sym (append-nil live.documents)) ∙ found-append (live.highest + 1) live.documents [] sound.used
