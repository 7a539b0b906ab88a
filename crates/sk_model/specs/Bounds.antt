-- How much a document can weigh, and how many can match, by numbers that are known without reading a list.
-- Source: What they bound is Xapian's `MSet::get_max_possible` and `MSet::get_matches_upper_bound`; the recursions are own.
use Rattle.std.specs.Prelude.{ℕ, ◌+◌, ◌-◌, ◌*◌, ◌^◌, min, max, nat_lt, List, [], ◌∷◌, map, if◌then◌else◌}
use Rattle.sk_base.specs.declared.find.Scheme.{Scheme}
use Rattle.sk_base.specs.Numbers.{Docs, live_of, length_of, greatest_of, wild_length_of, wild_greatest_of, slot_length_of}
use Rattle.sk_query.specs.declared.form.Form.{Form}
use Rattle.sk_query.specs.Trees.{Tree, nothing, all, term, wildcard, parts, near, phrase, synonym, scale, range, Trees, no_trees, tree}
use Rattle.sk_model.specs.Weights.{weigh_by}
use Rattle.sk_model.specs.Combining.{folded}
use Rattle.sk_model.specs.Ranges.{end_of, is_crossed}

-- The sum of bounds.
abbrev pub sum_in : List ℕ → ℕ
sum_in bounds = folded (λ a b. a + b) 0 bounds

-- The greatest of bounds.
abbrev pub greatest_in : List ℕ → ℕ
greatest_in bounds = folded max 0 bounds

-- The least of bounds.
abbrev pub least_in : List ℕ → ℕ
least_in [] = 0
least_in (b ∷ []) = b
least_in (b ∷ c ∷ bounds) = min b (least_in (c ∷ bounds))

-- The first of bounds.
abbrev pub first_in : List ℕ → ℕ
first_in [] = 0
first_in (b ∷ bounds) = b

-- A term's: the weight of its greatest wdf, and 0 where no document has it.
abbrev pub term_ceil : Scheme → ℕ → List ℕ → Docs → ℕ
term_ceil scheme factor t docs = if nat_lt 0 (length_of t docs) then weigh_by factor scheme (greatest_of t docs) else 0

-- Those of terms, added.
abbrev pub terms_ceil : Scheme → ℕ → List (List ℕ) → Docs → ℕ
terms_ceil scheme factor ts docs = sum_in (map (λ t. term_ceil scheme factor t docs) ts)

-- How long the lists of terms are in all.
abbrev pub lengths_of : List (List ℕ) → Docs → ℕ
lengths_of ts docs = sum_in (map (λ t. length_of t docs) ts)

-- The least length of the lists of terms.
abbrev pub least_length : List (List ℕ) → Docs → ℕ
least_length ts docs = least_in (map (λ t. length_of t docs) ts)

-- The greatest wdfs of terms, added.
abbrev pub greatests_of : List (List ℕ) → Docs → ℕ
greatests_of ts docs = sum_in (map (λ t. greatest_of t docs) ts)

-- That of several terms as one: the weight of the sum of their greatest wdfs, which is below 2^29, and 0 where no document has one of them.
abbrev pub joint_ceil : Scheme → ℕ → ℕ → ℕ → ℕ
joint_ceil scheme factor long greatest = if nat_lt 0 long then weigh_by factor scheme (min (2 ^ 29 - 1) greatest) else 0

-- No more than there are documents.
abbrev pub at_most_live : ℕ → Docs → ℕ
at_most_live n docs = min (live_of docs) n

-- How much a query of several can weigh, by its form and how much its parts can.
abbrev pub ceil_of : Form → List ℕ → ℕ
ceil_of Form.And ceils = sum_in ceils
ceil_of Form.Or ceils = sum_in ceils
ceil_of Form.Xor ceils = sum_in ceils
ceil_of Form.Max ceils = greatest_in ceils
ceil_of Form.AndNot ceils = first_in ceils
ceil_of Form.AndMaybe ceils = sum_in ceils
ceil_of Form.Filter ceils = first_in ceils

-- How many documents can match a query of several, of so many live ones, by its form and how many can match its parts.
abbrev pub static_of : Form → ℕ → List ℕ → ℕ
static_of Form.And live statics = least_in statics
static_of Form.Or live statics = min live (sum_in statics)
static_of Form.Xor live statics = min live (sum_in statics)
static_of Form.Max live statics = min live (sum_in statics)
static_of Form.AndNot live statics = first_in statics
static_of Form.AndMaybe live statics = first_in statics
static_of Form.Filter live statics = least_in statics

abbrev mutual
  -- No document weighs more under the query, times the factor.
  pub ceil : Tree → Scheme → ℕ → Docs → ℕ
  ceil nothing scheme factor docs = 0
  ceil all scheme factor docs = 0
  ceil (term t) scheme factor docs = term_ceil scheme factor t docs
  ceil (wildcard prefix) scheme factor docs = joint_ceil scheme factor (wild_length_of prefix docs) (wild_greatest_of prefix docs)
  ceil (parts form ts) scheme factor docs = ceil_of form (ceils ts scheme factor docs)
  ceil (near window ts) scheme factor docs = terms_ceil scheme factor ts docs
  ceil (phrase window ts) scheme factor docs = terms_ceil scheme factor ts docs
  ceil (synonym ts) scheme factor docs = joint_ceil scheme factor (lengths_of ts docs) (greatests_of ts docs)
  ceil (scale f t) scheme factor docs = ceil t scheme (factor * f) docs
  ceil (range slot lo hi) scheme factor docs = 0

  -- That of each part, in order.
  pub ceils : Trees → Scheme → ℕ → Docs → List ℕ
  ceils no_trees scheme factor docs = []
  ceils (tree t ts) scheme factor docs = ceil t scheme factor docs ∷ ceils ts scheme factor docs

abbrev mutual
  -- No more documents match the query.
  pub static_count : Tree → Docs → ℕ
  static_count nothing docs = 0
  static_count all docs = live_of docs
  static_count (term t) docs = length_of t docs
  static_count (wildcard prefix) docs = wild_length_of prefix docs
  static_count (parts form ts) docs = static_of form (live_of docs) (statics ts docs)
  static_count (near window ts) docs = least_length ts docs
  static_count (phrase window ts) docs = least_length ts docs
  static_count (synonym ts) docs = at_most_live (lengths_of ts docs) docs
  static_count (scale f t) docs = static_count t docs
  static_count (range slot lo hi) docs = if is_crossed (end_of lo) (end_of hi) then 0 else slot_length_of slot docs

  -- That of each part, in order.
  pub statics : Trees → Docs → List ℕ
  statics no_trees docs = []
  statics (tree t ts) docs = static_count t docs ∷ statics ts docs
