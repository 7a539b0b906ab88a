-- What a leaf at the beginning of its list has left.
use Rattle.std.proofs.Common.{◌≡◌, ◌<◌, ◌+◌, ◌^◌, ℕ, [], ◌∷◌, length, refl, ap, arith, min, drop}
use Rattle.sk_chunks.specs.Postings.{Postings}
use Rattle.sk_lists.specs.Seeks.{count_to}
use Rattle.sk_index.specs.Indexed.{Indexed}
use Rattle.sk_nodes.specs.declared.top.Top.{Top}
use Rattle.sk_nodes.specs.declared.leaf.Leaf.{Leaf}
use Rattle.sk_nodes.specs.Leaves.{entries_of, head_of}
use Rattle.sk_nodes.specs.Shapes.{leaf}
use Rattle.sk_nodes.specs.Led.{count_behind}
use Rattle.sk_nodes.specs.Begun.{Begins}
use Rattle.sk_sorted.specs.Entries.{from}
use Rattle.sk_sorted.proofs.EntryLaws.{from-at}

-- a leaf at the beginning of its list
pub leaf_begins : (i : Indexed) (top : Top) (l : Leaf) (list : Postings) (greatest : ℕ) → top.head ≡ head_of (entries_of i l) → entries_of i l ≡ list → l.greatest ≡ greatest → Begins i top (leaf l) list greatest
leaf_begins i top l list greatest at is own = record {
  stands = record { lone = tt; at = at };
  own = omega (arith, own);
  to = λ point. omega (arith, ap (count_to point) is);
  behind = λ point. omega (arith, ap (count_behind point) is);
}

-- ---- a leaf that was opened

pub begun_lone : (list entries un : Postings) → entries ≡ list → un ≡ drop 1 list → (length un + min (length list) 1 ≡ length list) × (head_of entries < 2 ^ 32 → length un < length list)
begun_lone [] entries un e f = (omega (arith, ap length f), λ lt. absurd (omega (arith, lt, ap head_of e)))
begun_lone (p ∷ ps) entries un e f = (omega (arith, ap length f), λ lt. omega (arith, ap length f))

-- ---- lengths

pub from_zero : (es : Postings) → from 0 es ≡ es
from_zero [] = refl
from_zero (e ∷ es) = from-at 0 e es (omega arith)
