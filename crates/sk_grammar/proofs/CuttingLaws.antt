-- Each text has exactly one cutting.
use Rattle.std.proofs.Common.{◌≡◌, ◌≤◌, ℕ, zero, suc, pred, List, [], ◌∷◌, length, take, drop, Option, Some, None, refl, sym, subst, arith}
use Rattle.sk_base.specs.declared.schema.Schema.{Schema}
use Rattle.sk_grammar.specs.Pieces.{Piece, piece_at}
use Rattle.sk_grammar.specs.Cutting.{last_of, AreLaid, IsCut, pieces_behind, pieces_of}
use Rattle.sk_grammar.proofs.PieceLaws.{Takes, piece_takes}

-- What is behind a piece of so many characters is laid, where that holds of what is behind one fewer of the characters that follow.
front_laid : (schema : Schema) (before : Option ℕ) (c : ℕ) (cs : List ℕ) (ps : List Piece) (n m : ℕ) → n ≡ suc m
    → AreLaid schema (last_of (Some c) (take m cs)) (drop m cs) ps → AreLaid schema (last_of before (take n (c ∷ cs))) (drop n (c ∷ cs)) ps
front_laid schema before c cs ps n m e h = subst (λ k. AreLaid schema (last_of before (take k (c ∷ cs))) (drop k (c ∷ cs)) ps) (sym e) h

-- The pieces that are computed are laid.
pub behind_laid : (schema : Schema) (cs : List ℕ) (before : Option ℕ) (n : ℕ) → n ≤ length cs
    → AreLaid schema (last_of before (take n cs)) (drop n cs) (pieces_behind schema before n cs)
behind_laid schema [] before zero h = refl
behind_laid schema [] before (suc n) h = absurd (omega arith)
behind_laid schema (c ∷ cs) before (suc n) h = behind_laid schema cs (Some c) n (omega arith)
behind_laid schema (c ∷ cs) before zero h =
    let fits : Takes (suc (length cs)) (piece_at schema before c cs) = piece_takes schema before c cs in
    let some : 1 ≤ Piece.size (piece_at schema before c cs) = fits.some in
    let whole : Piece.size (piece_at schema before c cs) ≤ suc (length cs) = fits.whole in (
      c,
      cs,
      refl,
      refl,
      some,
      whole,
      front_laid schema before c cs _ (Piece.size (piece_at schema before c cs)) (pred (Piece.size (piece_at schema before c cs))) (omega arith)
          (behind_laid schema cs (Some c) (pred (Piece.size (piece_at schema before c cs))) (omega arith)),
    )

-- Each text has a cutting.
pub cut_some : (schema : Schema) (cs : List ℕ) → IsCut schema cs (pieces_of schema cs)
cut_some schema cs = behind_laid schema cs None 0 (omega arith)

-- What is laid is the same from the same place on, where the first pieces are the same.
tails_laid : (schema : Schema) (before : Option ℕ) (left : List ℕ) (p q : Piece) (qs : List Piece) → q ≡ p
    → AreLaid schema (last_of before (take q.size left)) (drop q.size left) qs → AreLaid schema (last_of before (take p.size left)) (drop p.size left) qs
tails_laid schema before left p q qs e h = subst (λ (r : Piece). AreLaid schema (last_of before (take r.size left)) (drop r.size left) qs) e h

same_piece : (schema : Schema) (before : Option ℕ) (c d : ℕ) (cs ds left : List ℕ) (p q : Piece)
    → left ≡ c ∷ cs → left ≡ d ∷ ds → p ≡ piece_at schema before c cs → q ≡ piece_at schema before d ds → q ≡ p
same_piece schema before c d cs ds left p q a b e f = cc

pub laid_once : (schema : Schema) (ps qs : List Piece) (before : Option ℕ) (left : List ℕ) → AreLaid schema before left ps → AreLaid schema before left qs → qs ≡ ps
laid_once schema [] [] before left g h = refl
laid_once schema [] (q ∷ qs) before left g h = let none : left ≡ [] = g in let some : left ≡ h.0 ∷ h.1 = h.2 in cc
laid_once schema (p ∷ ps) [] before left g h = let none : left ≡ [] = h in let some : left ≡ g.0 ∷ g.1 = g.2 in cc
laid_once schema (p ∷ ps) (q ∷ qs) before left g h =
    let first : q ≡ p = same_piece schema before g.0 h.0 g.1 h.1 left p q g.2 h.2 g.3 h.3 in
    let more : qs ≡ ps = laid_once schema ps qs (last_of before (take p.size left)) (drop p.size left) g.6 (tails_laid schema before left p q qs first h.6) in
    cc

-- And no other.
pub cut_once : (schema : Schema) (cs : List ℕ) (ps : List Piece) → IsCut schema cs ps → ps ≡ pieces_of schema cs
cut_once schema cs ps h = laid_once schema (pieces_of schema cs) ps None cs (cut_some schema cs) h
