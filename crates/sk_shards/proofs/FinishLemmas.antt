-- A search at its end.
use Rattle.std.proofs.Common.{◌∙◌, ◌≡◌, ◌≤◌, ◌<◌, ◌+◌, ◌^◌, ◌||◌, ℕ, Bool, true, List, [], ◌∷◌, length, map, sum_by, Option, is_none, unwrap_or, sym, ap, subst, arith}
use Rattle.std.proofs.lemmas.List.{length-map}
use Rattle.std.proofs.lemmas.List.Sums.{sum_by-cons}
use Rattle.sk_base.specs.declared.find.Paging.{Paging}
use Rattle.sk_base.specs.declared.find.Scheme.{Scheme}
use Rattle.sk_base.specs.declared.report.Report.{Report}
use Rattle.sk_base.specs.Numbers.{Docs}
use Rattle.sk_sorted.specs.Entries.{AreSorted, first_id}
use Rattle.sk_sorted.proofs.EntryLaws.{length_fits}
use Rattle.sk_sorted.proofs.JoinedLaws.{rise-joined}
use Rattle.sk_query.specs.Trees as Query
use Rattle.sk_model.specs.Allowance.{leaf_readings}
use Rattle.sk_model.specs.Joined.{joined_ceil, joined_static, part_ups, joined_stop_point}
use Rattle.sk_model.specs.Matches.{found_by}
use Rattle.sk_model.proofs.JoinedLaws.{found_in_parts, static_in_parts, ups_in_parts}
use Rattle.sk_model.proofs.ReadingLaws.{leaves_in_parts}
use Rattle.sk_report.specs.Reports.{ReportsOver}
use Rattle.sk_documents.specs.Turned.{AreTurns}
use Rattle.sk_index.specs.Indexed.{Indexed}
use Rattle.sk_tree.specs.declared.tree.Tree.{Tree}
use Rattle.sk_page.specs.Needs.{is_settled, is_whole}
use Rattle.sk_page.specs.Tells.{IsSpentOver}
use Rattle.sk_page.specs.Views.{MayReport, Reports}
use Rattle.sk_page.proofs.EndLaws as Ends
use Rattle.sk_page.proofs.WalkLaws.{weighed}
use Rattle.sk_shards.specs.Forests.{AreBuilt, AllStop, IsFirst, Stands, ahead, docs_of, gives_all, ceiling_in, is_done, spent_in}
use Rattle.sk_shards.specs.declared.forest.Forest.{Forest}
use Rattle.sk_shards.specs.declared.forest.Head.{Head}
use Rattle.sk_shards.proofs.OpenLemmas.{parts_are}
use Rattle.sk_shards.proofs.TurnLemmas.{ceiling_low_of, left_all, ended_is}

abbrev docs_in : Indexed → Docs
docs_in i = i.live.documents

-- ---- what the trees spent

-- no more than the lists of all leaves in their parts
spent_lists : (indexes : List Indexed) (trees : List Tree) (query : Query.Tree) (scheme : Scheme) → AreBuilt indexes trees query scheme → spent_in trees ≤ sum_by (λ (docs : Docs). leaf_readings query docs) (map docs_in indexes)
spent_lists [] [] query scheme built = omega arith
spent_lists [] (t ∷ trees) query scheme built = absurd built
spent_lists (i ∷ indexes) [] query scheme built = absurd built
spent_lists (i ∷ indexes) (t ∷ trees) query scheme built =
    let own = built.0.account in
    let rest = spent_lists indexes trees query scheme built.1 in
    let whole = sum_by-cons (λ (docs : Docs). leaf_readings query docs) i.live.documents (map docs_in indexes) in
    omega (arith, own, rest, whole)

-- where each stops, no more than each may
spent_stops : (n part id : ℕ) (lists : List (List ℕ)) (indexes : List Indexed) (trees : List Tree) (query : Query.Tree) (scheme : Scheme) → AreBuilt indexes trees query scheme → AllStop n part lists id indexes trees
    → spent_in trees ≤ part_ups n part lists id (map docs_in indexes)
spent_stops n part id lists [] [] query scheme built stops = omega arith
spent_stops n part id lists [] (t ∷ trees) query scheme built stops = absurd built
spent_stops n part id lists (i ∷ indexes) [] query scheme built stops = absurd built
spent_stops n part id lists (i ∷ indexes) (t ∷ trees) query scheme built stops =
    let own = stops.0.account in
    let rest = spent_stops n (part + 1) id lists indexes trees query scheme built.1 stops.1 in
    omega (arith, own, rest)

module _ (indexes : List Indexed) (f : Forest) (paging : Paging) (query : Query.Tree) (turns : AreTurns docs_in indexes) (stands : Stands f indexes paging query) where
  abbrev docs : Docs
  docs = docs_of indexes

  abbrev n : ℕ
  n = length indexes

  abbrev greatest : ℕ
  greatest = joined_ceil n query paging.options.scheme docs

  abbrev ceiling : ℕ
  ceiling = ceiling_in f.trees.items

  sorted : AreSorted docs
  sorted = record { rise = rise-joined (map docs_in indexes); small = turns.small }

  found : length (found_by query paging docs) ≤ joined_static n query docs
  found = found_in_parts n docs stands.some (rise-joined (map docs_in indexes)) query paging 1 stands.sound

  small : joined_static n query docs < 2 ^ 32
  small =
      let live = static_in_parts n docs stands.some (rise-joined (map docs_in indexes)) query in
      let few = length_fits docs sorted in
      omega (arith, live, few)

  pub lists_spent : IsSpentOver n query paging docs (spent_in f.trees.items)
  lists_spent = record {
    lists =
        let each = spent_lists indexes f.trees.items query paging.options.scheme stands.built in
        let parts = ap (sum_by (λ (es : Docs). leaf_readings query es)) (parts_are indexes turns.rise) in
        let all = leaves_in_parts n query docs stands.some (rise-joined (map docs_in indexes)) stands.terms in
        omega (arith, each, parts, all);
    stop = λ plain lists terms.
        let each = spent_stops n 0 (joined_stop_point n query paging docs) lists indexes f.trees.items query paging.options.scheme stands.built (stands.stops plain lists terms) in
        let all = ups_in_parts n (joined_stop_point n query paging docs) lists (map docs_in indexes) (length-map indexes docs_in) turns.rise in
        omega (arith, each, all);
  }

  left : ahead indexes f ≡ weighed (gives_all indexes f.trees.items) docs
  left = left_all indexes f query paging.options.scheme turns stands.built

  -- it is done, and what it tells of its end is so
  pub done_told : is_done indexes f ≡ true → (is_none (first_id (weighed (gives_all indexes f.trees.items) docs)) || is_settled f.page.options f.page.seen f.page.heap ceiling) ≡ true
  done_told done = subst (λ (ps : List (ℕ × ℕ)). (is_none (first_id ps) || is_settled f.page.options f.page.seen f.page.heap ceiling) ≡ true) left done

  pub whole_told : (first : Option Head) → IsFirst indexes f.trees.items first → is_whole f.page.options f.need (is_none first) ceiling ≡ is_whole f.page.options f.need (is_none (first_id (weighed (gives_all indexes f.trees.items) docs))) ceiling
  whole_told first is = ap (λ b. is_whole f.page.options f.need b ceiling) (ended_is indexes f query paging.options.scheme turns stands.built first is ∙ ap (λ (ps : List (ℕ × ℕ)). is_none (first_id ps)) left)

  module _ (most : (id : ℕ) → unwrap_or (gives_all indexes f.trees.items id) 0 ≤ ceiling) (done : (is_none (first_id (weighed (gives_all indexes f.trees.items) docs)) || is_settled f.page.options f.page.seen f.page.heap ceiling) ≡ true) where
    module _ (whole : Bool) (tells : whole ≡ is_whole f.page.options f.need (is_none (first_id (weighed (gives_all indexes f.trees.items) docs))) ceiling) where
      pub may_report : MayReport f.page f.bounds.most whole
      may_report =
          subst (λ b. MayReport f.page b.most whole) (sym stands.bounds)
          (Ends.may_report query paging docs greatest (gives_all indexes f.trees.items) f.need f.page stands.page ceiling most done (ceiling_low_of indexes f paging query turns stands) stands.low (joined_static n query docs) found small whole (sym tells))

      pub finished : (report : Report) → Reports docs f.page f.bounds whole (spent_in f.trees.items) report → ReportsOver n query paging docs report
      finished report reports =
          Ends.reported_over query paging docs greatest (gives_all indexes f.trees.items) f.need f.page stands.page ceiling most done (ceiling_low_of indexes f paging query turns stands) stands.low (joined_static n query docs) found
          n whole (sym tells) (spent_in f.trees.items) lists_spent report (subst (λ b. Reports docs f.page b whole (spent_in f.trees.items) report) stands.bounds reports)
