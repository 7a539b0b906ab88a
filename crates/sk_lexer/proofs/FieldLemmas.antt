-- How long the pieces of fields are.
use Rattle.std.proofs.Common.{◌≡◌, ◌≤◌, ◌<◌, ℕ, ◌+◌, ◌^◌, List, length, drop, Option, Some, None, Result, Ok, Err, IfOk, IfSome, option_map, sym, subst, arith}
use Rattle.std.proofs.lemmas.Str.{length-le-encodes}
use Rattle.std.specs.declared.alloc.AllocError.{AllocError}
use Rattle.sk_grammar.specs.Cutting.{byte_len}
use Rattle.sk_grammar.specs.Pieces.{Piece}
use Rattle.sk_grammar.proofs.PieceLaws.{Takes}
use Rattle.sk_lexer.specs.declared.piece.Cut.{Cut}
use Rattle.sk_lexer.specs.Shown.{shown}
use Rattle.sk_lexer.proofs.RunLemmas.{length_encoded, byte_len-front}

-- There are no more characters than bytes.
pub length-le-byte_len : (cs : List ℕ) → length cs ≤ byte_len cs
length-le-byte_len cs = let bytes = length_encoded cs in let few = length-le-encodes cs in omega (arith, bytes, few)

-- What is behind takes no more bytes than all.
pub byte_len-drop : (n : ℕ) (cs : List ℕ) → byte_len (drop n cs) ≤ byte_len cs
byte_len-drop n cs = let parts = byte_len-front n cs in omega (arith, parts)

-- A piece of the code is as long as that of the definition.
pub short : (o : Option Cut) (q : Option Piece) (n m : ℕ) → option_map shown o ≡ q → IfSome q (Takes n) → n ≤ m → IfSome o (λ p. p.size ≤ m)
short None q n m e h few = tt
short (Some p) q n m e h few =
    let takes : IfSome (Some (shown p)) (Takes n) = subst (λ (r : Option Piece). IfSome r (Takes n)) (sym e) h in
    let whole : p.size ≤ n = takes.whole in
    omega arith

pub short_ok : (r : Result (Option Cut) AllocError) (q : Option Piece) (n m : ℕ) → IfOk r (λ p. option_map shown p ≡ q) → IfSome q (Takes n) → n ≤ m
    → IfOk r (λ p. IfSome p (λ (c : Cut). c.size ≤ m))
short_ok (Ok o) q n m e h few = short o q n m e h few
short_ok (Err f) q n m e h few = tt

-- A piece with characters more in front.
pub room : (o : Option Cut) (n m : ℕ) → IfSome o (λ p. p.size ≤ m) → n + m < 2 ^ 64 → IfSome o (λ p. n + p.size < 2 ^ 64)
room None n m h few = tt
room (Some p) n m h few = let whole : p.size ≤ m = h in omega arith
