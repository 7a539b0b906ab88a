-- The payloads of the documents.
use Rattle.std.specs.Prelude.{◌≡◌, ◌≢◌, ℕ, List, [], Option, None, Some}
use Rattle.sk_sorted.specs.Entries.{found}

-- Payloads by rising id. A document whose payload is empty has no entry.
abbrev pub Payloads : Type 0
Payloads = List (ℕ × List ℕ)

-- The text, and the empty one where there is none.
abbrev pub text_or_empty : Option (List ℕ) → List ℕ
text_or_empty None = []
text_or_empty (Some text) = text

-- The payload of a document.
abbrev pub payload_of : ℕ → Payloads → List ℕ
payload_of id payloads = text_or_empty (found id payloads)

-- Each other document has the payload that it had.
abbrev pub KeepsPayloads : ℕ → Payloads → Payloads → Type 0
KeepsPayloads id old new = (other : ℕ) → other ≢ id → payload_of other new ≡ payload_of other old
