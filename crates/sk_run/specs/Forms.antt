-- What the words behind the program's name ask for.
use Rattle.std.specs.Prelude.{ℕ, ◌==◌, ◌&&◌, Bool, false, not, nat_le, List, [], ◌∷◌, drop, Option, Some, None, Result, Ok, Err, bytes_eq, codes, string_bytes, if◌then◌else◌}
use Rattle.std.proofs.Common.{String, Global, Vec}
use Rattle.std.specs.List.{list_all}
use Rattle.std.specs.Char.{is_ascii_digit}
use Rattle.std.specs.Str.Parse.{digits_value}
use Rattle.std.specs.declared.io.ErrorKind.{ErrorKind}
use Rattle.sk_base.specs.declared.find.Join.{Join}
use Rattle.sk_run.specs.declared.form.Form.{Form}
use Rattle.sk_run.specs.declared.form.Form.TheVariants.{Run, Search, Demo}
use Rattle.sk_run.specs.declared.status.Status.{Status}

-- The status of a run whose arguments were not read: want of memory, or words that are none of the forms.
abbrev pub status_for : ErrorKind → Status
status_for ErrorKind.OutOfMemory = Status.Memory
status_for _ = Status.Usage

-- The greatest number of documents of a demonstration.
abbrev pub most_documents : ℕ
most_documents = 200000

-- A demonstration of so many documents, where they are not too many.
abbrev pub demo_of : ℕ → Option Form
demo_of n = if nat_le n most_documents then Some (Demo n) else None

-- A decimal number without a leading zero.
abbrev pub is_size : List ℕ → Bool
is_size [] = false
is_size (first ∷ rest) = not (first == 48) && list_all is_ascii_digit (first ∷ rest)

-- A demonstration of as many documents as the word says: a decimal number without a leading zero, from 1 to 200,000.
abbrev pub demo_form : List ℕ → Option Form
demo_form word = if is_size word then demo_of (digits_value 10 word) else None

-- What two words ask for: `search` and any word, or `demo` and a number.
abbrev pub two_words : List ℕ → List ℕ → Option Form
two_words word other = if bytes_eq word (codes "search") then Some (Search Join.Or) else (if bytes_eq word (codes "demo") then demo_form other else None)

-- What `search`, a word and `and` ask for.
abbrev pub three_words : List ℕ → List ℕ → Option Form
three_words word join = if bytes_eq word (codes "search") && bytes_eq join (codes "and") then Some (Search Join.And) else None

-- The words that are a form: `run`; `search` and any word, and `and` behind them or not; `demo` and a number. No others are.
abbrev pub form_of : List (List ℕ) → Option Form
form_of [] = None
form_of (word ∷ []) = if bytes_eq word (codes "run") then Some Run else None
form_of (word ∷ other ∷ []) = two_words word other
form_of (word ∷ file ∷ join ∷ []) = three_words word join
form_of (word ∷ file ∷ join ∷ more ∷ words) = None

-- The second word, and nothing where there is none.
abbrev pub second_word : List (String Global) → List ℕ
second_word [] = []
second_word (word ∷ []) = []
second_word (word ∷ other ∷ words) = string_bytes other

-- The path that the arguments of a program name: the second word behind the program's name.
abbrev pub path_named : Result (Vec (String Global) Global) Status → List ℕ
path_named (Ok words) = second_word (drop 1 words.items)
path_named (Err status) = []
