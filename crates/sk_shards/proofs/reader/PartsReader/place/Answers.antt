use Rattle.std.proofs.Common.{◌∙◌, ◌≡◌, ℕ, List, [], ◌∷◌, length, map, slice_index_or, refl, sym, ap, arith}
use Rattle.sk_base.specs.Numbers.{Docs}
use Rattle.sk_sorted.proofs.EntryLaws.{found-below}
use Rattle.sk_sorted.proofs.JoinedLaws.{rise-joined}
use Rattle.sk_model.specs.Edits.{document_at}
use Rattle.sk_documents.specs.Turned.{AreTurns}
use Rattle.sk_documents.proofs.TurnLaws.{same_there}
use Rattle.sk_index.specs.Indexed.{Indexed}
use Rattle.sk_shards.specs.Forests.{docs_of}
use Rattle.sk_shards.proofs.reader.PartsReader.place.Goals as goal

abbrev docs_in : Indexed → Docs
docs_in i = i.live.documents

-- none has the id 0
none_there : (indexes : List Indexed) (i : Indexed) (id : ℕ) → AreTurns docs_in indexes → id ≡ 0 → document_at 0 (slice_index_or indexes 0 i).live.documents ≡ document_at id (docs_of indexes)
none_there [] i id turns is = let some = turns.some in absurd (omega (arith, some))
none_there (j ∷ indexes) i id turns is =
    found-below 0 0 j.live.documents (omega arith) turns.rise.0
    ∙ sym (found-below 0 id (docs_of (j ∷ indexes)) (omega (arith, is)) (rise-joined (map docs_in (j ∷ indexes))))

pub returns-then-id-eq0 : goal.returns-then-id-eq0
returns-then-id-eq0 c = none_there c.args.self.now.indexes.now c.index-self-0.result c.args.id c.args.self.now.turns c.if-id-eq0.true

pub returns : goal.returns
returns c =
    let indexes = c.args.self.now.indexes.now in
    ap (λ (i : Indexed). document_at c.own_id.result i.live.documents) (sym c.index-self-part.is)
    ∙ same_there docs_in indexes c.args.self.now.turns c.args.id (omega arith) (length indexes) c.part_of-part.result c.own_id.result refl c.part_of-part.ensures.value c.own_id.ensures.value c.index-self-part.result c.index-self-part.is
