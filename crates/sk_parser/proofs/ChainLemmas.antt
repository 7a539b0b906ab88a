-- Parts that are kept in order, seen from the last.
use Rattle.std.proofs.Common.{◌≡◌, ℕ, max, Bool, Option, None, List, [], ◌∷◌, ◌++◌, map, reverse, Vec, Global, sym, ap, ◌∙◌}
use Rattle.std.proofs.lemmas.List.{map-append, reverse-append}
use Rattle.sk_base.specs.declared.text.Text.{Text}
use Rattle.sk_grammar.specs.Parts.{chain, linked}
use Rattle.sk_parser.specs.declared.part.Part.{Part}
use Rattle.sk_parser.specs.Views.{part_view, parts_behind}

-- The last part stands first.
pub behind_last : (xs : List Part) (x : Part) → parts_behind (xs ++ x ∷ []) ≡ part_view x ∷ parts_behind xs
behind_last xs x = ap reverse (map-append part_view xs (x ∷ [])) ∙ reverse-append (map part_view xs) (part_view x ∷ [])

-- Words behind a link and a chain go to the chain, which asks for no stem.
pub linked_chain : (ordered : Bool) (n : ℕ) (p : Bool) (k : ℕ) (stem other : Option Text) (us : List (List ℕ)) (mid old : List Part) (o : Bool) (m most : ℕ) (ts all : Vec Text Global)
    → old ≡ mid ++ Part.Chain o m other ts ∷ [] → most ≡ max m n → all.items ≡ ts.items ++ us
    → chain ordered most None all.items ∷ parts_behind mid ≡ linked ordered n (parts_behind old) p k stem us
linked_chain ordered n p k stem other us mid old o m most ts all e g h =
    (λ i. chain ordered (g i) None (h i) ∷ parts_behind mid)
    ∙ sym (ap (λ ps. linked ordered n ps p k stem us) (ap parts_behind e ∙ behind_last mid (Part.Chain o m other ts)))
