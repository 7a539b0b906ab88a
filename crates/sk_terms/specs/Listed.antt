-- The posting lists of all terms.
use Rattle.std.specs.Prelude.{◌≡◌, ◌≢◌, ℕ, List, [], length, set, slice_index_or, bytes_eq, Option, Some, None, if◌then◌else◌}
use Rattle.std.specs.List.{AllPairs}
use Rattle.sk_base.specs.declared.doc_entry.DocTerm.{DocTerm}
use Rattle.sk_base.specs.Documents.{has_term, wdf_of}
use Rattle.sk_dict.specs.Terms.{number_of}
use Rattle.sk_sorted.specs.Entries.{put, without}
use Rattle.sk_sorted.specs.Runs.{flat}
use Rattle.sk_chunks.specs.Postings.{Postings}
use Rattle.sk_lists.specs.Lists.{Runs}

-- Terms by their numbers, and the chunks of a list for each number.
pub record Listed : Type 0 where
  pub terms : List (List ℕ)
  pub lists : List Runs

-- The list with this number, and an empty one where there is no number.
abbrev pub list_under : Option ℕ → List Runs → Postings
list_under None lists = []
list_under (Some n) lists = flat (slice_index_or lists n [])

-- The list of a term, empty where the term has no number.
abbrev pub list_of : List ℕ → Listed → Postings
list_of t listed = list_under (number_of t listed.terms) listed.lists

-- There are as many lists as terms, and no term twice.
pub record IsListed (listed : Listed) : Type 0 where
  pub sizes : length listed.lists ≡ length listed.terms
  pub different : AllPairs (λ s t. s ≢ t) listed.terms

-- The list with this number was edited, and no other.
pub record IsEdited (n : ℕ) (edit : Postings → Postings) (old new : List Runs) : Type 0 where
  pub runs : Runs
  pub is : new ≡ set old n runs
  pub entries : flat runs ≡ edit (flat (slice_index_or old n []))

-- No list changed.
abbrev pub SameLists : Listed → Listed → Type 0
SameLists old new = (t : List ℕ) → list_of t new ≡ list_of t old

-- The document has this wdf in the list of one term, and no other list changed.
abbrev pub Puts : ℕ → List ℕ → ℕ → Listed → Listed → Type 0
Puts id term wdf old new = (t : List ℕ) → list_of t new ≡ (if bytes_eq term t then put id wdf (list_of t old) else list_of t old)

-- The document is out of the list of one term, and no other list changed.
abbrev pub TakesOut : ℕ → List ℕ → Listed → Listed → Type 0
TakesOut id term old new = (t : List ℕ) → list_of t new ≡ (if bytes_eq term t then without id (list_of t old) else list_of t old)

-- The document is in the lists of these terms, with the wdf of each, and no other list changed.
abbrev pub PutsAll : ℕ → List DocTerm → Listed → Listed → Type 0
PutsAll id terms old new = (t : List ℕ) → list_of t new ≡ (if has_term t terms then put id (wdf_of t terms) (list_of t old) else list_of t old)

-- The document is out of the lists of these terms, and no other list changed.
abbrev pub TakesOutAll : ℕ → List DocTerm → Listed → Listed → Type 0
TakesOutAll id terms old new = (t : List ℕ) → list_of t new ≡ (if has_term t terms then without id (list_of t old) else list_of t old)
