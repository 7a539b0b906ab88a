-- A part of several indexes, and its documents.
use Rattle.std.proofs.Common.{◌∙◌, ◌≡◌, ◌<◌, ℕ, zero, suc, List, [], ◌∷◌, length, map, slice_index_or, sym, ap, arith}
use Rattle.std.proofs.lemmas.List.{length-map}
use Rattle.sk_base.specs.Numbers.{Docs}
use Rattle.sk_sorted.specs.Joined.{joined, part_at}
use Rattle.sk_sorted.proofs.PartLaws.{part_in-joined}
use Rattle.sk_model.specs.Joined.{part_docs}
use Rattle.sk_documents.specs.Turned.{AreTurns}
use Rattle.sk_index.specs.Indexed.{Indexed}

abbrev pub docs_in : Indexed → Docs
docs_in i = i.live.documents

at_map : (indexes : List Indexed) (k : ℕ) (i : Indexed) → k < length indexes → i ≡ slice_index_or indexes k i → part_at (map docs_in indexes) k ≡ i.live.documents
at_map [] k i l is = absurd (omega (arith, l))
at_map (j ∷ indexes) zero i l is = ap docs_in (sym is)
at_map (j ∷ indexes) (suc k) i l is = at_map indexes k i (omega (arith, l)) is

pub part_is : (indexes : List Indexed) (docs : Docs) (k : ℕ) (i : Indexed) → AreTurns docs_in indexes → joined (map docs_in indexes) ≡ docs → k < length indexes → i ≡ slice_index_or indexes k i
    → i.live.documents ≡ part_docs (length indexes) k docs
part_is indexes docs k i turns all l is =
    sym (
    ap (part_docs (length indexes) k) (sym all)
    ∙ part_in-joined (length indexes) k l (map docs_in indexes) (length-map indexes docs_in) turns.rise
    ∙ at_map indexes k i l is
    )
