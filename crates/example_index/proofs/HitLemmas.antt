-- The hits of one more chunk.
use Rattle.std.proofs.Common.{◌≡◌, ℕ, ◌+◌, ◌<◌, List, [], ◌∷◌, ◌++◌, length, take, map, get_or, sym, ap, ◌∙◌}
use Rattle.std.proofs.lemmas.List.{take_more, map-append}
use Rattle.sk_chunks.specs.Postings.{Postings}
use Rattle.sk_sorted.specs.Runs.{flat}
use Rattle.sk_sorted.proofs.RunLaws.{flat-last}
use Rattle.example_index.specs.Example.{hit_of}
use Rattle.example_index.specs.declared.Hit.{Hit}

pub hits_more : (list : List Postings) (at : ℕ) (hits more : List Hit) → at < length list → hits ≡ map hit_of (flat (take at list))
    → more ≡ hits ++ map hit_of (get_or list at []) → more ≡ map hit_of (flat (take (at + 1) list))
hits_more list at hits more there so_far now =
    now ∙ ap (λ (hs : List Hit). hs ++ map hit_of (get_or list at [])) so_far ∙ sym (map-append hit_of (flat (take at list)) (get_or list at []))
    ∙ ap (λ (ps : Postings). map hit_of ps) (sym (flat-last (take at list) (get_or list at [])) ∙ ap (λ (rs : List Postings). flat rs) (sym (take_more list at [] there)))
