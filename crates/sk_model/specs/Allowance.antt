-- The steps that a find may take. One step is one reading in the index.
-- Source: Own.
use Rattle.std.specs.Prelude.{ℕ, ◌+◌, sum_by, Option, Some, None}
use Rattle.sk_base.specs.declared.find.Collapse.{Collapse}
use Rattle.sk_base.specs.declared.find.Paging.{Paging}
use Rattle.sk_base.specs.declared.rank.OrderBy.{OrderBy}
use Rattle.sk_base.specs.Numbers.{Docs, live_of, length_of, slot_length_of, terms_with}
use Rattle.sk_query.specs.Trees.{Tree, nothing, all, term, wildcard, parts, near, phrase, synonym, scale, range, Trees, no_trees, tree}
use Rattle.sk_model.specs.Bounds.{lengths_of}

abbrev mutual
  -- The lengths of the lists of all leaves: a wildcard has one for each term that begins so, `all` that of all documents, a range its slot's. Those of near and phrase count twice, for their positions.
  pub leaf_readings : Tree → Docs → ℕ
  leaf_readings nothing docs = 0
  leaf_readings all docs = live_of docs
  leaf_readings (term t) docs = length_of t docs
  leaf_readings (wildcard prefix) docs = sum_by (λ t. length_of t docs) (terms_with prefix docs)
  leaf_readings (parts form ts) docs = leaves_readings ts docs
  leaf_readings (near window ts) docs = lengths_of ts docs + lengths_of ts docs
  leaf_readings (phrase window ts) docs = lengths_of ts docs + lengths_of ts docs
  leaf_readings (synonym ts) docs = lengths_of ts docs
  leaf_readings (scale f t) docs = leaf_readings t docs
  leaf_readings (range slot lo hi) docs = slot_length_of slot docs

  -- Those of the parts, added.
  pub leaves_readings : Trees → Docs → ℕ
  leaves_readings no_trees docs = 0
  leaves_readings (tree t ts) docs = leaf_readings t docs + leaves_readings ts docs

-- One reading for each match where a find collapses.
abbrev pub key_readings : Option Collapse → ℕ → ℕ
key_readings None matching = 0
key_readings (Some collapse) matching = matching

-- One reading for each match where the order uses a value.
abbrev pub value_readings : OrderBy → ℕ → ℕ
value_readings OrderBy.Relevance matching = 0
value_readings (OrderBy.Value key) matching = matching
value_readings (OrderBy.ValueThenRelevance key) matching = matching
value_readings (OrderBy.RelevanceThenValue key) matching = matching

-- Beside the lists: the keys and the values of matches, and the payloads of hits.
abbrev pub extra : Paging → ℕ → ℕ → ℕ
extra paging matching hits = key_readings paging.collapse matching + value_readings paging.order.by matching + hits

-- Each list once, and the extra readings.
abbrev pub allowance : Tree → Paging → Docs → ℕ → ℕ → ℕ
allowance query paging docs matching hits = leaf_readings query docs + extra paging matching hits
