-- What a piece that was put in part leaves.
use Rattle.std.specs.Prelude.{◌≡◌, ℕ, List, ◌++◌, Option, Some, IfSome}

-- A front of the piece was appended to what was held.
pub record AppendsFront (held : List ℕ) (new : Option (List ℕ)) (piece : List ℕ) : Type 0 where
  pub shown : List ℕ
  pub rest : List ℕ
  pub whole : piece ≡ shown ++ rest
  pub now_held : new ≡ Some (held ++ shown)

-- Where the sink tells what it holds, a front of the piece was appended.
abbrev pub AppendsPrefix : Option (List ℕ) → Option (List ℕ) → List ℕ → Type 0
AppendsPrefix old new piece = IfSome old (λ held. AppendsFront held new piece)
