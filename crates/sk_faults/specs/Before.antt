-- What the finder of faults keeps of the tokens before a place.
use Rattle.std.specs.Prelude.{◌≡◌, ℕ, suc, pred, ◌==◌, ◌&&◌, Bool, false, List, [], ◌∷◌, if◌then◌else◌, Option, Some, None}
use Rattle.sk_grammar.specs.declared.token.Kind.{Kind}
use Rattle.sk_grammar.specs.Faults.{ends_unit, is_word, is_near_sign, is_adj_sign, is_open, first_is, second_is, brackets_at, leaves_among}
use Rattle.sk_faults.specs.declared.before.Before.{Before}

-- What is kept is so of these tokens, the last of which stands first.
pub record Is (b : Before) (before : List Kind) : Type 0 where
  pub depth : b.depth ≡ brackets_at before
  pub leaves : b.leaves ≡ leaves_among before
  pub unit : b.unit ≡ first_is ends_unit before
  pub word : b.word ≡ first_is is_word before
  pub near : b.near ≡ first_is is_near_sign before
  pub adj : b.adj ≡ first_is is_adj_sign before
  pub second_near : b.second_near ≡ second_is is_near_sign before
  pub second_adj : b.second_adj ≡ second_is is_adj_sign before

-- How many of these brackets close one that was opened before them.
abbrev pub closers_with : Kind → ℕ → ℕ
closers_with (Kind.Open field) n = pred n
closers_with Kind.Close n = suc n
closers_with _ n = n

abbrev pub closers : List Kind → ℕ
closers [] = 0
closers (k ∷ ks) = closers_with k (closers ks)

-- Where the first bracket stands that is never closed, if there is one, the first of these tokens standing at this place.
abbrev pub unclosed_from : ℕ → List Kind → Option ℕ
unclosed_from i [] = None
unclosed_from i (k ∷ ks) = if is_open k && closers ks == 0 then Some i else unclosed_from (suc i) ks

-- Whether it is this place.
abbrev pub is_at : Option ℕ → ℕ → Bool
is_at None i = false
is_at (Some first) i = first == i
