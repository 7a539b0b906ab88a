-- The walk over a text.
use Rattle.std.proofs.Common.{◌≡◌, ◌≤◌, ℕ, zero, suc, pred, ◌+◌, false, ◌==◌, List, [], ◌∷◌, ◌++◌, length, take, drop, Option, Some, refl, sym, ap, ◌∙◌, subst, append_assoc, append-nil, chars, IsUtf8, arith}
use Rattle.std.proofs.lemmas.Str.{encodes-chars}
use Rattle.std.proofs.lemmas.Bool.Decides.{nat_tests}
use Rattle.sk_base.specs.declared.schema.Schema.{Schema}
use Rattle.sk_grammar.specs.declared.token.Token.{Token}
use Rattle.sk_grammar.specs.Pieces.{Piece, piece_at}
use Rattle.sk_grammar.specs.Cutting.{last_of, pieces_behind, token_at, byte_len, tokens_from, tokens_in}
use Rattle.sk_grammar.proofs.PieceLaws.{Takes, piece_takes}
use Rattle.sk_lexer.specs.Shown.{piece_in}
use Rattle.sk_lexer.proofs.RunLemmas.{byte_len-front, length_encoded}

-- The piece at the front of what is left has a character at least, and no more than are left.
pub front_takes : (schema : Schema) (previous : Option ℕ) (here : List ℕ) → 1 ≤ length here → Takes (length here) (piece_in schema previous here)
front_takes schema previous [] some = absurd (omega arith)
front_takes schema previous (c ∷ cs) some = piece_takes schema previous c cs

-- The pieces behind so many characters.
pieces_dropped : (schema : Schema) (before : Option ℕ) (n : ℕ) (cs : List ℕ) → pieces_behind schema before n cs ≡ pieces_behind schema (last_of before (take n cs)) 0 (drop n cs)
pieces_dropped schema before zero [] = refl
pieces_dropped schema before (suc n) [] = refl
pieces_dropped schema before zero (c ∷ cs) = refl
pieces_dropped schema before (suc n) (c ∷ cs) = pieces_dropped schema (Some c) n cs

-- What was made, and what is still to come, are the tokens of the text.
pub record Reached (schema : Schema) (cs : List ℕ) (made : List Token) (previous : Option ℕ) (from : ℕ) (left : List ℕ) : Type 0 where
  pub whole : made ++ tokens_from from left (pieces_behind schema previous 0 left) ≡ tokens_in schema cs
  pub place : from + byte_len left ≡ byte_len cs

-- The pieces behind the first.
behind_first : (schema : Schema) (previous : Option ℕ) (c : ℕ) (cs : List ℕ) (n : ℕ) → 1 ≤ n
    → pieces_behind schema (Some c) (pred n) cs ≡ pieces_behind schema (last_of previous (take n (c ∷ cs))) 0 (drop n (c ∷ cs))
behind_first schema previous c cs zero some = absurd (omega arith)
behind_first schema previous c cs (suc n) some = pieces_dropped schema (Some c) n cs

-- The tokens of what is left, the first piece apart.
pub first_apart : (schema : Schema) (previous : Option ℕ) (from : ℕ) (left : List ℕ) (p : Piece) → 1 ≤ length left → p ≡ piece_in schema previous left
    → tokens_from from left (pieces_behind schema previous 0 left)
    ≡ token_at p.kind from (from + byte_len (take p.size left))
    ++ tokens_from (from + byte_len (take p.size left)) (drop p.size left) (pieces_behind schema (last_of previous (take p.size left)) 0 (drop p.size left))
first_apart schema previous from [] p some e = absurd (omega arith)
first_apart schema previous from (c ∷ cs) p some e =
    let takes : Takes (suc (length cs)) (piece_at schema previous c cs) = piece_takes schema previous c cs in
    let size : 1 ≤ p.size = subst (λ (q : Piece). 1 ≤ q.size) (sym e) takes.some in
    ap (λ (q : Piece). tokens_from from (c ∷ cs) (q ∷ pieces_behind schema (Some c) (pred q.size) cs)) (sym e)
    ∙ ap (λ (ps : List Piece). token_at p.kind from (from + byte_len (take p.size (c ∷ cs))) ++ tokens_from (from + byte_len (take p.size (c ∷ cs))) (drop p.size (c ∷ cs)) ps)
    (behind_first schema previous c cs p.size size)

joined : (a b c : List Token) → (a ++ b) ++ c ≡ a ++ (b ++ c)
joined a b c = simp append_assoc

-- One piece on.
pub reached_next : (schema : Schema) (cs left here rest : List ℕ) (made more : List Token) (previous last : Option ℕ) (from to : ℕ) (p : Piece)
    → Reached schema cs made previous from left → 1 ≤ length left → p ≡ piece_in schema previous left → here ≡ take p.size left → rest ≡ drop p.size left
    → to ≡ from + byte_len here → last ≡ last_of previous here → more ≡ made ++ token_at p.kind from to → Reached schema cs more last to rest
reached_next schema cs left here rest made more previous last from to p r some e h d t l m =
    let end : to ≡ from + byte_len (take p.size left) = t ∙ ap (λ xs. from + byte_len xs) h in
    let parts : byte_len (take p.size left) + byte_len (drop p.size left) ≡ byte_len left = byte_len-front p.size left in
    let behind : byte_len rest ≡ byte_len (drop p.size left) = ap byte_len d in
    let place : from + byte_len left ≡ byte_len cs = r.place in
    let before : last ≡ last_of previous (take p.size left) = l ∙ ap (last_of previous) h in
    let moved : more ++ tokens_from to rest (pieces_behind schema last 0 rest)
    ≡ (made ++ token_at p.kind from to) ++ tokens_from to (drop p.size left) (pieces_behind schema (last_of previous (take p.size left)) 0 (drop p.size left)) =
    λ i. m i ++ tokens_from to (d i) (pieces_behind schema (before i) 0 (d i)) in
    record {
      whole =
          moved
          ∙ ap (λ (n : ℕ). (made ++ token_at p.kind from n) ++ tokens_from n (drop p.size left) (pieces_behind schema (last_of previous (take p.size left)) 0 (drop p.size left))) end
          ∙ joined made (token_at p.kind from (from + byte_len (take p.size left))) _
          ∙ ap (λ ts. made ++ ts) (sym (first_apart schema previous from left p some e))
          ∙ r.whole;
      place = omega arith;
    }

-- At the end.
pub reached_end : (schema : Schema) (cs left : List ℕ) (made : List Token) (previous : Option ℕ) (from : ℕ) → Reached schema cs made previous from left → length left ≡ 0
    → made ≡ tokens_in schema cs
reached_end schema cs [] made previous from r e = sym (append-nil made) ∙ r.whole
reached_end schema cs (c ∷ left) made previous from r e = absurd (omega arith)

-- The characters of a text take its bytes.
pub byte_len-chars : (text : List ℕ) → IsUtf8 text → byte_len (chars text) ≡ length text
byte_len-chars text u = sym (length_encoded (chars text)) ∙ ap length (encodes-chars text u)

-- What is not empty has a character.
pub some_left : (n : ℕ) → (n == 0) ≡ false → 1 ≤ n
some_left n e = grind (arith, nat_tests)
