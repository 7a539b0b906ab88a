-- What becomes of the kept matches when one more is seen.
use Rattle.std.specs.Prelude.{◌≡◌, ◌≢◌, ℕ, ◌==◌, not, true, List, [], ◌∷◌, filter, All, if◌then◌else◌}
use Rattle.std.specs.List.{IsAmong}
use Rattle.sk_base.specs.declared.rank.Rank.{Rank}
use Rattle.sk_base.specs.declared.rank.Order.{Order}
use Rattle.sk_base.specs.Before.{is_before}
use Rattle.sk_model.specs.Page.{place}
use Rattle.sk_collapse.specs.Collapsed.{Collapsed, Knows, kept_in}
use Rattle.sk_collapse.specs.declared.verdict.Verdict.{Verdict}

-- The matches without the one with this id.
abbrev pub without_rank : ℕ → List Rank → List Rank
without_rank id ranks = filter (λ y. not (y.id == id)) ranks

-- What becomes of a match with this id where these fall out of the best of its key: it is kept where none does, and dropped where it is the one.
abbrev pub verdict_of : ℕ → List Rank → Verdict
verdict_of id [] = Verdict.Keep
verdict_of id (z ∷ zs) = if z.id == id then Verdict.Drop else Verdict.KeepFor z.id

-- The kept matches before and after a match was seen: it comes to them; or it does so in place of a worse one of its key; or it is dropped.
abbrev pub Judges : Verdict → Order → (Rank → List ℕ) → Rank → List Rank → List Rank → Type 0
Judges Verdict.Keep order key x before after = after ≡ place order x before
Judges (Verdict.KeepFor id) order key x before after =
    (y : Rank) × (y.id ≡ id) × IsAmong before y × (key y ≡ key x) × (is_before order x y ≡ true) × (after ≡ place order x (without_rank id before))
Judges Verdict.Drop order key x before after = after ≡ before

-- A collapser saw a match under this key: for every key function that agrees it knows the match too, and its verdict is what became of the kept ones.
abbrev pub KnowsMore : Collapsed → Collapsed → Verdict → List ℕ → Rank → Type 0
KnowsMore c d verdict k x =
    (key : Rank → List ℕ) (ranks : List Rank) → Knows c key ranks → key x ≡ k → All (λ r. r.id ≢ x.id) ranks
    → Knows d key (x ∷ ranks) × Judges verdict c.order key x (kept_in c.order c.most key ranks) (kept_in c.order c.most key (x ∷ ranks))
