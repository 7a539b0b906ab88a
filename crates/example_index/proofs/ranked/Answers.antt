use Rattle.std.proofs.Common.{List, [], map, IsPermutation, sym, subst}
use Rattle.std.proofs.lemmas.List.Sorted.{IsPermutation-refl}
use Rattle.sk_chunks.specs.Postings.{Postings}
use Rattle.sk_index.specs.Indexed.{postings}
use Rattle.sk_index.proofs.NumberLemmas.{none_listed}
use Rattle.example_index.specs.Example.{hit_of}
use Rattle.example_index.specs.declared.Hit.{Hit}
use Rattle.example_index.proofs.ranked.Goals as goal

-- no document has a word that has no number
pub returns-in_default-clause-all : goal.returns-in_default-clause-all
returns-in_default-clause-all g c =
    subst (λ (hs : List Hit). IsPermutation (map hit_of (postings c.args.word.now c.args.index.now.live.documents)) hs) (sym c.new.ensures.items)
    (subst (λ (ps : Postings). IsPermutation (map hit_of ps) []) (sym (none_listed c.args.word.now c.args.index.now.live.documents c.in_default.ensures.found))
    (IsPermutation-refl []))
