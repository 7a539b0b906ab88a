-- What a search keeps for its page.
-- Source: Own.
use Rattle.std.specs.Prelude.{◌≡◌, ◌≢◌, ◌≤◌, ℕ, List, AllPairs, Option, None, Some}
use Rattle.std.specs.List.{AllByRecursion}
use Rattle.sk_base.specs.declared.find.Collapse.{Collapse}
use Rattle.sk_base.specs.declared.find.Paging.{Paging}
use Rattle.sk_base.specs.declared.rank.Order.{Order}
use Rattle.sk_base.specs.declared.rank.Rank.{Rank}
use Rattle.sk_base.specs.Numbers.{Docs}
use Rattle.sk_model.specs.Matches.{key_of}
use Rattle.sk_model.specs.Page.{best_first}
use Rattle.sk_heap.specs.declared.hit.Hit.{Hit}
use Rattle.sk_heap.specs.Held.{Held, ranks_of, offered, without_hit}
use Rattle.sk_collapse.specs.Collapsed.{Collapsed, Knows}
use Rattle.sk_collapse.specs.Verdicts.{KnowsMore}
use Rattle.sk_collapse.specs.declared.verdict.Verdict.{Verdict}
use Rattle.sk_page.specs.Walks.{page_end, held_by}

-- A find that collapses has a collapser that knows the matches, and another one has none.
abbrev pub CollapsesBy : Option Collapse → Order → (Rank → List ℕ) → List Rank → Option Collapsed → Type 0
CollapsesBy None order key ranks None = Unit {0}
CollapsesBy None order key ranks (Some c) = ⊥
CollapsesBy (Some collapse) order key ranks None = ⊥
CollapsesBy (Some collapse) order key ranks (Some c) = (c.order ≡ order) × (c.most ≡ collapse.max) × Knows c key ranks

-- What a heap holds after a match was judged.
abbrev pub held_by_verdict : Verdict → Hit → Held → Held
held_by_verdict Verdict.Keep hit held = offered hit held
held_by_verdict (Verdict.KeepFor id) hit held = offered hit (without_hit id held)
held_by_verdict Verdict.Drop hit held = held

-- What a collapser made of a match, if there is one: it knows the match too, and its verdict is what became of the kept ones.
abbrev pub SeesBy : Option Collapsed → Option Collapsed → Verdict → Hit → Type 0
SeesBy None None verdict hit = verdict ≡ Verdict.Keep
SeesBy None (Some d) verdict hit = ⊥
SeesBy (Some c) None verdict hit = ⊥
SeesBy (Some c) (Some d) verdict hit = (d.order ≡ c.order) × (d.most ≡ c.most) × KnowsMore c d verdict hit.key hit.rank

-- A match was offered to a heap, as the collapser judged.
pub record Offers (held held2 : Held) (c c2 : Option Collapsed) (hit : Hit) : Type 0 where
  pub verdict : Verdict
  pub heap : held2 ≡ held_by_verdict verdict hit held
  pub sees : SeesBy c c2 verdict hit

-- Of the matches that were seen, none behind this id, the heap holds the kept ones up to the end of the page, each with its key.
pub record Pages (paging : Paging) (docs : Docs) (last : ℕ) (saw : List Rank) (held : Held) (c : Option Collapsed) : Type 0 where
  -- The same matches, the newest first.
  pub newest : List Rank
  pub same : best_first paging.order saw ≡ best_first paging.order newest
  pub differ : AllPairs (λ x y. x.id ≢ y.id) newest
  pub low : AllByRecursion (λ r. r.id ≤ last) newest
  pub order : held.order ≡ paging.order
  pub most : held.most ≡ page_end paging
  pub room : held.room ≡ page_end paging
  pub hits : ranks_of held.hits ≡ held_by paging docs newest
  pub keys : AllByRecursion (λ hit. hit.key ≡ key_of paging.collapse docs hit.rank) held.hits
  pub under : AllByRecursion (λ hit. hit.rank.id ≤ last) held.hits
  pub collapse : CollapsesBy paging.collapse paging.order (key_of paging.collapse docs) newest c
