-- Pages of hits, each with its id, its weight and how many were collapsed into it, and the true counts, worked out by hand.
use Rattle.std.proofs.Common.{◌≡◌, ℕ, Bool, true, false, ◌∷◌, [], List, length, refl, Option, Some, None, map, codes}
use Rattle.sk_base.specs.declared.find.Collapse.{Collapse}
use Rattle.sk_base.specs.declared.find.Paging.{Paging}
use Rattle.sk_base.specs.declared.find.Scheme.{Scheme}
use Rattle.sk_base.specs.declared.rank.Order.{Order}
use Rattle.sk_base.specs.declared.rank.OrderBy.{OrderBy}
use Rattle.sk_base.specs.declared.rank.SortKey.{SortKey}
use Rattle.sk_base.specs.Numbers.{Docs}
use Rattle.sk_query.specs.declared.form.Form.{Form}
use Rattle.sk_query.specs.Trees.{Tree, nothing, all, term, parts, phrase, trees_from}
use Rattle.sk_model.specs.Matches.{found_by, key_of}
use Rattle.sk_model.specs.Counts.{kept_by, dropped_by}
use Rattle.sk_model.specs.Reports.{page_of}
use Rattle.sk_model.proofs.Examples.{four, has, site, rising, relevance}

abbrev key : ℕ → Bool → SortKey
key slot reverse = record { slot = slot; reverse = reverse }

abbrev by : ℕ → ℕ → Option Collapse
by slot most = Some (record { slot = slot; max = most })

-- a page
abbrev asks : Scheme → Order → Option Collapse → ℕ → ℕ → Paging
asks scheme order collapse first size = record { options = record { scheme = scheme; first = first; size = size; check = 0; cutoff = 0 }; order = order; collapse = collapse }

-- its page over documents
abbrev page : Docs → Tree → Paging → List (ℕ × ℕ × ℕ)
page docs query paging = map (λ rank. (rank.id, rank.weight, dropped_by paging docs (key_of paging.collapse docs rank) (found_by query paging docs))) (page_of query paging docs)

-- how many it keeps in all
abbrev count : Docs → Tree → Paging → ℕ
count docs query paging = length (kept_by paging docs (found_by query paging docs))

abbrev red_fox : Tree
red_fox = parts Form.Or (trees_from (term (codes "red") ∷ term (codes "fox") ∷ []))

-- `red` or `fox` in the orders, and pages of them
abbrev ordered : List (Paging × List (ℕ × ℕ × ℕ))
ordered =
    (asks Scheme.Nnn relevance None 0 10, (1, 3, 0) ∷ (4, 2, 0) ∷ (2, 1, 0) ∷ (3, 1, 0) ∷ [])
    ∷ (asks Scheme.Coord relevance None 0 10, (1, 2, 0) ∷ (4, 2, 0) ∷ (2, 1, 0) ∷ (3, 1, 0) ∷ [])
    ∷ (asks Scheme.Bool relevance None 0 10, (1, 0, 0) ∷ (2, 0, 0) ∷ (3, 0, 0) ∷ (4, 0, 0) ∷ [])
    ∷ (asks Scheme.Nnn (rising (OrderBy.Value (key 0 false))) None 0 10, (4, 2, 0) ∷ (1, 3, 0) ∷ (2, 1, 0) ∷ (3, 1, 0) ∷ [])
    ∷ (asks Scheme.Nnn (rising (OrderBy.Value (key 0 true))) None 0 10, (3, 1, 0) ∷ (2, 1, 0) ∷ (1, 3, 0) ∷ (4, 2, 0) ∷ [])
    ∷ (asks Scheme.Nnn (rising (OrderBy.Value (key 1 false))) None 0 10, (1, 3, 0) ∷ (2, 1, 0) ∷ (3, 1, 0) ∷ (4, 2, 0) ∷ [])
    ∷ (asks Scheme.Nnn (rising (OrderBy.Value (key 1 true))) None 0 10, (3, 1, 0) ∷ (4, 2, 0) ∷ (1, 3, 0) ∷ (2, 1, 0) ∷ [])
    ∷ (asks Scheme.Nnn (rising (OrderBy.Value (key 7 true))) None 0 10, (1, 3, 0) ∷ (2, 1, 0) ∷ (3, 1, 0) ∷ (4, 2, 0) ∷ [])
    ∷ (asks Scheme.Nnn (rising (OrderBy.ValueThenRelevance (key 1 false))) None 0 10, (1, 3, 0) ∷ (2, 1, 0) ∷ (4, 2, 0) ∷ (3, 1, 0) ∷ [])
    ∷ (asks Scheme.Nnn (rising (OrderBy.ValueThenRelevance (key 1 true))) None 0 10, (4, 2, 0) ∷ (3, 1, 0) ∷ (1, 3, 0) ∷ (2, 1, 0) ∷ [])
    ∷ (asks Scheme.Bool (rising (OrderBy.ValueThenRelevance (key 1 true))) None 0 10, (3, 0, 0) ∷ (4, 0, 0) ∷ (1, 0, 0) ∷ (2, 0, 0) ∷ [])
    ∷ (asks Scheme.Coord (rising (OrderBy.RelevanceThenValue (key 0 false))) None 0 2, (4, 2, 0) ∷ (1, 2, 0) ∷ [])
    ∷ (asks Scheme.Coord (rising (OrderBy.RelevanceThenValue (key 0 true))) None 0 10, (1, 2, 0) ∷ (4, 2, 0) ∷ (3, 1, 0) ∷ (2, 1, 0) ∷ [])
    ∷ (asks Scheme.Nnn relevance None 1 2, (4, 2, 0) ∷ (2, 1, 0) ∷ [])
    ∷ (asks Scheme.Nnn relevance None 3 10, (3, 1, 0) ∷ [])
    ∷ (asks Scheme.Nnn relevance None 4 10, [])
    ∷ (asks Scheme.Nnn relevance None 4294967295 4294967295, [])
    ∷ (asks Scheme.Nnn relevance None 0 0, [])
    ∷ (asks Scheme.Nnn relevance None 2 1, (2, 1, 0) ∷ [])
    ∷ []

ordered_pages : map (λ row. page four red_fox row.0) ordered ≡ map (λ row. row.1) ordered
ordered_pages = refl

-- ids that fall: of matches that are equal otherwise the one with the greater id comes first
abbrev falls : OrderBy → Order
falls order = record { by = order; falling = true }

abbrev fallen : List (Paging × List (ℕ × ℕ × ℕ))
fallen =
    (asks Scheme.Nnn (falls OrderBy.Relevance) None 0 10, (1, 3, 0) ∷ (4, 2, 0) ∷ (3, 1, 0) ∷ (2, 1, 0) ∷ [])
    ∷ (asks Scheme.Nnn (falls (OrderBy.Value (key 1 false))) None 0 10, (2, 1, 0) ∷ (1, 3, 0) ∷ (4, 2, 0) ∷ (3, 1, 0) ∷ [])
    ∷ (asks Scheme.Bool (falls OrderBy.Relevance) None 0 1, (4, 0, 0) ∷ [])
    ∷ (asks Scheme.Nnn (falls (OrderBy.Value (key 0 true))) None 0 10, (3, 1, 0) ∷ (2, 1, 0) ∷ (1, 3, 0) ∷ (4, 2, 0) ∷ [])
    ∷ []

fallen_pages : map (λ row. page four red_fox row.0) fallen ≡ map (λ row. row.1) fallen
fallen_pages = refl

-- the same find with a cutoff
abbrev above : ℕ → Paging → Paging
above cutoff paging = record paging { options = record paging.options { cutoff = cutoff } }

-- what weighs less is in no page, in no count, and collapses nothing
abbrev cut : List (Paging × List (ℕ × ℕ × ℕ) × ℕ)
cut =
    (above 1 (asks Scheme.Nnn relevance None 0 10), (1, 3, 0) ∷ (4, 2, 0) ∷ (2, 1, 0) ∷ (3, 1, 0) ∷ [], 4)
    ∷ (above 2 (asks Scheme.Nnn relevance None 0 10), (1, 3, 0) ∷ (4, 2, 0) ∷ [], 2)
    ∷ (above 3 (asks Scheme.Nnn relevance None 0 10), (1, 3, 0) ∷ [], 1)
    ∷ (above 4 (asks Scheme.Nnn relevance None 0 10), [], 0)
    ∷ (above 2 (asks Scheme.Nnn relevance None 1 10), (4, 2, 0) ∷ [], 2)
    ∷ (above 1 (asks Scheme.Bool relevance None 0 10), [], 0)
    ∷ (above 2 (asks Scheme.Nnn relevance (by 1 1) 0 10), (1, 3, 0) ∷ (4, 2, 0) ∷ [], 2)
    ∷ (above 2 (asks Scheme.Nnn (rising (OrderBy.Value (key 1 true))) (by 1 1) 0 10), (4, 2, 0) ∷ (1, 3, 0) ∷ [], 2)
    ∷ []

cut_pages : map (λ row. page four red_fox row.0) cut ≡ map (λ row. row.1) cut
cut_pages = refl

cut_counts : map (λ row. count four red_fox row.0) cut ≡ map (λ row. row.2) cut
cut_counts = refl

ordered_counts : map (λ row. count four red_fox row.0) ordered ≡ map (λ row. 4) ordered
ordered_counts = refl

-- queries, and their ten first hits by relevance
abbrev queries : List (Tree × List (ℕ × ℕ × ℕ) × ℕ)
queries =
    (parts Form.Xor (trees_from ((term (codes "red")) ∷ (term (codes "fox")) ∷ (term (codes "red")) ∷ [])), (1, 5, 0) ∷ (4, 3, 0) ∷ (3, 1, 0) ∷ [], 3)
    ∷ (parts Form.Max (trees_from ((term (codes "red")) ∷ (term (codes "fox")) ∷ [])), (1, 2, 0) ∷ (2, 1, 0) ∷ (3, 1, 0) ∷ (4, 1, 0) ∷ [], 4)
    ∷ (parts Form.And (trees_from ((term (codes "red")) ∷ (term (codes "fox")) ∷ [])), (1, 3, 0) ∷ (4, 2, 0) ∷ [], 2)
    ∷ (phrase 2 (codes "red" ∷ codes "fox" ∷ []), (1, 3, 0) ∷ (4, 2, 0) ∷ [], 2)
    ∷ (all, (1, 0, 0) ∷ (2, 0, 0) ∷ (3, 0, 0) ∷ (4, 0, 0) ∷ [], 4)
    ∷ (nothing, [], 0)
    ∷ []

query_pages : map (λ row. page four row.0 (asks Scheme.Nnn relevance None 0 10)) queries ≡ map (λ row. row.1) queries
query_pages = refl

query_counts : map (λ row. count four row.0 (asks Scheme.Nnn relevance None 0 10)) queries ≡ map (λ row. row.2) queries
query_counts = refl

-- collapsed on the site or the year
abbrev collapsed : List (Paging × List (ℕ × ℕ × ℕ) × ℕ)
collapsed =
    (asks Scheme.Nnn relevance (by 1 1) 0 10, (1, 3, 1) ∷ (4, 2, 1) ∷ [], 2)
    ∷ (asks Scheme.Nnn relevance (by 1 2) 0 10, (1, 3, 0) ∷ (4, 2, 0) ∷ (2, 1, 0) ∷ (3, 1, 0) ∷ [], 4)
    ∷ (asks Scheme.Nnn relevance (by 0 1) 0 10, (1, 3, 0) ∷ (4, 2, 0) ∷ (2, 1, 0) ∷ (3, 1, 0) ∷ [], 4)
    ∷ (asks Scheme.Nnn relevance (by 7 1) 0 10, (1, 3, 0) ∷ (4, 2, 0) ∷ (2, 1, 0) ∷ (3, 1, 0) ∷ [], 4)
    ∷ (asks Scheme.Nnn (rising (OrderBy.Value (key 0 true))) (by 1 1) 0 10, (3, 1, 1) ∷ (2, 1, 1) ∷ [], 2)
    ∷ (asks Scheme.Nnn relevance (by 1 1) 0 1, (1, 3, 1) ∷ [], 2)
    ∷ (asks Scheme.Nnn relevance (by 1 1) 1 10, (4, 2, 1) ∷ [], 2)
    ∷ (asks Scheme.Nnn relevance (by 1 1) 2 10, [], 2)
    ∷ (asks Scheme.Nnn relevance None 1 1, (4, 2, 0) ∷ [], 4)
    ∷ []

collapsed_pages : map (λ row. page four red_fox row.0) collapsed ≡ map (λ row. row.1) collapsed
collapsed_pages = refl

collapsed_counts : map (λ row. count four red_fox row.0) collapsed ≡ map (λ row. row.2) collapsed
collapsed_counts = refl

-- six documents, three of the first site and two of none, by the wdf of x
abbrev six : Docs
six =
    (1, record { terms = has (codes "x") 1 [] ∷ []; values = site (codes "a") ∷ []; payload = [] })
    ∷ (2, record { terms = has (codes "x") 2 [] ∷ []; values = site (codes "a") ∷ []; payload = [] })
    ∷ (3, record { terms = has (codes "x") 3 [] ∷ []; values = site (codes "a") ∷ []; payload = [] })
    ∷ (4, record { terms = has (codes "x") 1 [] ∷ []; values = site (codes "b") ∷ []; payload = [] })
    ∷ (5, record { terms = has (codes "x") 4 [] ∷ []; values = []; payload = [] })
    ∷ (6, record { terms = has (codes "x") 1 [] ∷ []; values = []; payload = [] })
    ∷ []

-- documents of no site are kept apart
abbrev apart : List (Paging × List (ℕ × ℕ × ℕ) × ℕ)
apart =
    (asks Scheme.Nnn relevance None 0 10, (5, 4, 0) ∷ (3, 3, 0) ∷ (2, 2, 0) ∷ (1, 1, 0) ∷ (4, 1, 0) ∷ (6, 1, 0) ∷ [], 6)
    ∷ (asks Scheme.Nnn relevance (by 1 1) 0 10, (5, 4, 0) ∷ (3, 3, 2) ∷ (4, 1, 0) ∷ (6, 1, 0) ∷ [], 4)
    ∷ (asks Scheme.Nnn relevance (by 1 2) 0 10, (5, 4, 0) ∷ (3, 3, 1) ∷ (2, 2, 1) ∷ (4, 1, 0) ∷ (6, 1, 0) ∷ [], 5)
    ∷ (asks Scheme.Nnn relevance (by 1 3) 0 10, (5, 4, 0) ∷ (3, 3, 0) ∷ (2, 2, 0) ∷ (1, 1, 0) ∷ (4, 1, 0) ∷ (6, 1, 0) ∷ [], 6)
    ∷ (asks Scheme.Nnn relevance (by 1 1) 1 2, (3, 3, 2) ∷ (4, 1, 0) ∷ [], 4)
    ∷ (asks Scheme.Nnn relevance (by 1 2) 2 2, (2, 2, 1) ∷ (4, 1, 0) ∷ [], 5)
    ∷ []

apart_pages : map (λ row. page six (term (codes "x")) row.0) apart ≡ map (λ row. row.1) apart
apart_pages = refl

apart_counts : map (λ row. count six (term (codes "x")) row.0) apart ≡ map (λ row. row.2) apart
apart_counts = refl
