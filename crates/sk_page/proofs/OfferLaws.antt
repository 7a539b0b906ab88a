-- A match that is offered to a page.
use Rattle.std.proofs.Common.{◌≡◌, ◌≢◌, ◌≤◌, ◌<◌, ℕ, not, ◌==◌, true, List, length, filter, All, Option, None, Some, is_none, refl, sym, arith, true≢false}
use Rattle.std.specs.Option.{IsSomeAnd}
use Rattle.std.specs.List.Sorted.{IsSortedBy}
use Rattle.std.proofs.lemmas.List.Elements.{All-from_recursion, recursion_from_All}
use Rattle.sk_base.specs.Before.{is_before}
use Rattle.sk_heap.specs.declared.hit.Hit.{Hit}
use Rattle.sk_heap.specs.Held.{Held, offered, need_of}
use Rattle.sk_heap.proofs.HeapLaws.{full_by, need_keeps_out, falls_out}
use Rattle.sk_collapse.specs.declared.verdict.Verdict.{Verdict}
use Rattle.sk_collapse.specs.Collapsed.{Collapsed}
use Rattle.sk_page.specs.Pages.{Offers}
use Rattle.sk_page.proofs.PageLaws.{all_filter}

-- ids differ from those of fewer hits
pub differ_without : (id other : ℕ) (hits : List Hit) → All (λ (h : Hit). h.rank.id ≢ other) hits → All (λ (h : Hit). h.rank.id ≢ other) (filter (λ (h : Hit). not (h.rank.id == id)) hits)
differ_without id other hits h =
    All-from_recursion (λ (x : Hit). x.rank.id ≢ other) (filter (λ (x : Hit). not (x.rank.id == id)) hits)
    (all_filter (λ (x : Hit). x.rank.id ≢ other) (λ (x : Hit). not (x.rank.id == id)) hits (recursion_from_All (λ (x : Hit). x.rank.id ≢ other) hits h))

-- a hit that is kept out leaves the page as it is
pub kept_out : (held : Held) (c : Option Collapsed) (hit : Hit) → is_none c ≡ true → length held.hits ≤ held.most → IsSortedBy (λ (x y : Hit). is_before held.order x.rank y.rank) held.hits → IsSomeAnd (need_of held) (λ n. hit.rank.weight < n)
    → All (λ (h : Hit). h.rank.id < hit.rank.id) held.hits → Offers held held c c hit
kept_out held (Some c) hit none few sorted light under = absurd (true≢false (sym none))
kept_out held None hit none few sorted light under = record { verdict = Verdict.Keep; heap = same (need_of held) refl light; sees = refl }
  where
    same : (o : Option ℕ) → need_of held ≡ o → IsSomeAnd o (λ n. hit.rank.weight < n) → held ≡ offered hit held
    same None e h = absurd h
    same (Some n) e h =
        let full = full_by held n e (omega (arith, h)) in
        sym (falls_out held hit (omega (arith, full, few)) (need_keeps_out held n hit.rank sorted e h under))
