-- The text that a value is, by whether its bytes are UTF-8.
use Rattle.std.proofs.Common.{◌≡◌, ◌<◌, ◌+◌, ◌++◌, ◌∷◌, ℕ, List, [], drop, get_or, length, if◌then◌else◌, sym, ap, ◌∙◌}
use Rattle.std.proofs.lemmas.List.{append_assoc, drop_more}
use Rattle.std.specs.Str.{IsUtf8}
use Rattle.std.proofs.lemmas.Str.{is_utf8-from_IsUtf8}
use Rattle.sk_base.specs.declared.facets.Facet.{Facet}
use Rattle.sk_base.specs.declared.facets.ValueKind.{ValueKind}
use Rattle.sk_run.specs.Facets.{text_in, facet_line, facet_lines}
use Rattle.sk_run.proofs.MachineLemmas.{not_utf8}

pub text_told : (value text : List ℕ) → text ≡ value → IsUtf8 value → text ≡ text_in value
text_told value text is utf8 = is ∙ sym (ap (λ b. if b then value else []) (is_utf8-from_IsUtf8 value utf8))

pub no_text : (value : List ℕ) → (IsUtf8 value → ⊥) → [] ≡ text_in value
no_text value h = sym (ap (λ b. if b then value else []) (not_utf8 value h))

-- what is written of the next value is the first of what is left
pub next_value : (old new : List ℕ) (kind : ValueKind) (i : ℕ) (facets : List Facet) (facet : Facet) → i < length facets → facet ≡ get_or facets i facet → new ≡ old ++ facet_line kind facet
    → new ++ facet_lines kind (drop (i + 1) facets) ≡ old ++ facet_lines kind (drop i facets)
next_value old new kind i facets facet below at is =
    let left = drop (i + 1) facets in
    ap (λ xs. xs ++ facet_lines kind left) is
    ∙ append_assoc old (facet_line kind facet) (facet_lines kind left)
    ∙ ap (λ f. old ++ facet_lines kind (f ∷ left)) at
    ∙ sym (ap (λ xs. old ++ facet_lines kind xs) (drop_more facets i facet below))
