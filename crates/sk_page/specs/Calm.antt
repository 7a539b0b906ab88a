-- What a search by relevance, without collapsing, asks its tree for before a point at which its page is settled.
-- Source: Own.
use Rattle.std.specs.Prelude.{ℕ, ◌≤◌, ◌<◌}
use Rattle.std.specs.Option.{option_and_then, IsSomeAnd}
use Rattle.sk_base.specs.declared.find.Paging.{Paging}
use Rattle.sk_base.specs.Numbers.{Docs}
use Rattle.std.specs.Prelude.{Option}
use Rattle.sk_query.specs.Trees.{Tree}
use Rattle.sk_model.specs.Edits.{document_at, last_id}
use Rattle.sk_model.specs.Scores.{score}

-- What the document with this id scores.
abbrev pub scored_at : Tree → Paging → Docs → ℕ → Option ℕ
scored_at query paging docs id = option_and_then (λ document. score query paging.options.scheme 1 document) (document_at id docs)

-- Before the point it asks for no more than the document there scores. (The last id is no point: it stands for none.)
abbrev pub IsCalm : Tree → Paging → Docs → ℕ → ℕ → ℕ → Type 0
IsCalm query paging docs point last need = last < point → point < last_id → IsSomeAnd (scored_at query paging docs point) (λ w. need ≤ w)
