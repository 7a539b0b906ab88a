-- Lists dealt into buckets, one bucket an id: what is true of the fields of `Buckets`.
-- Source: A bucket queue of textbooks; the words are own.
use Rattle.std.specs.Prelude.{◌≡◌, ◌≢◌, ◌⊎◌, ℕ, zero, suc, ◌≤◌, ◌<◌, ◌+◌, ◌==◌, List, [], ◌∷◌, length, slice_index, slice_index_or, if◌then◌else◌}
use Rattle.sk_buckets.specs.declared.mark.Mark.{Mark}
use Rattle.sk_buckets.specs.declared.bucket.Bucket.{Bucket}
use Rattle.sk_buckets.specs.Marks.{weight_at, greatest_of, AreMarks}

-- The mark of a list, by its number.
abbrev pub mark_at : List Mark → ℕ → Mark
mark_at ms i = slice_index_or ms i (record { head = 0; weight = 0; greatest = 0 })

-- The bucket at a place.
abbrev pub bucket_at : List Bucket → ℕ → Bucket
bucket_at bs place = slice_index_or bs place (record { count = 0; first = 0; weight = 0 })

-- How many stand at an id.
abbrev pub count_at : ℕ → List Mark → ℕ
count_at id [] = 0
count_at id (m ∷ ms) = (if m.head == id then 1 else 0) + count_at id ms

-- So many lists from one on, each followed by its next.
abbrev pub chain : ℕ → List ℕ → ℕ → List ℕ
chain zero next i = []
chain (suc n) next i = i ∷ chain n next (slice_index next i)

-- The lists of a bucket.
abbrev pub lists_in : List ℕ → Bucket → List ℕ
lists_in next b = chain b.count next b.first

-- A number is one of these.
abbrev pub Among : ℕ → List ℕ → Type 0
Among i [] = ⊥
Among i (x ∷ xs) = (i ≡ x) ⊎ Among i xs

-- No number comes twice.
abbrev pub Differ : List ℕ → Type 0
Differ [] = Unit {0}
Differ (x ∷ xs) = (Among x xs → ⊥) × Differ xs

-- No number is among both.
abbrev pub Apart : List ℕ → List ℕ → Type 0
Apart xs ys = (i : ℕ) → Among i xs → Among i ys → ⊥

-- Numbers without one of them.
pub record IsWithout (i : ℕ) (xs ys : List ℕ) : Type 0 where
  pub differ : Differ ys
  pub other : (j : ℕ) → Among j ys → Among j xs × (j ≢ i)
  pub kept : (j : ℕ) → Among j xs → j ≢ i → Among j ys

-- A list stands at an id.
pub record StandsAt (ms : List Mark) (id i : ℕ) : Type 0 where
  pub within : i < length ms
  pub there : (mark_at ms i).head ≡ id

-- A bucket holds the lists that stand at an id, and tells what they weigh there together.
pub record IsBucket (ms : List Mark) (next : List ℕ) (id : ℕ) (b : Bucket) : Type 0 where
  pub count : b.count ≡ count_at id ms
  pub weight : b.weight ≡ weight_at id ms
  pub differ : Differ (lists_in next b)
  pub stands : (i : ℕ) → Among i (lists_in next b) → StandsAt ms id i
  pub all : (i : ℕ) → StandsAt ms id i → Among i (lists_in next b)

-- Each bucket holds the lists that stand at its id, of which the first is `base`.
pub record AreDealt (ms : List Mark) (base : ℕ) (bs : List Bucket) (next : List ℕ) : Type 0 where
  pub each : (place : ℕ) → place < length bs → IsBucket ms next (base + place) (bucket_at bs place)

-- All lists stand at this id or behind it.
pub record AllFrom (id : ℕ) (ms : List Mark) : Type 0 where
  pub each : (i : ℕ) → i < length ms → id ≤ (mark_at ms i).head

-- The fields of `Buckets`: all lists stand at the bucket of the place or behind it.
pub record AreBuckets (ms : List Mark) (greatest base at : ℕ) (bs : List Bucket) (next : List ℕ) : Type 0 where
  pub are : AreMarks ms
  pub sum : greatest ≡ greatest_of ms
  pub reached : AllFrom (base + at) ms
  pub within : at ≤ length bs
  pub some : 0 < length ms → 0 < length bs
  pub long : length next ≡ length ms
  pub dealt : AreDealt ms base bs next
