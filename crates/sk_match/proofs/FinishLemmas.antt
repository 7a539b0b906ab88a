-- A search at its end.
use Rattle.std.proofs.Common.{◌≡◌, ◌≤◌, ◌<◌, ◌^◌, ◌||◌, ℕ, Bool, true, false, min, length, None, is_none, unwrap_or, refl, sym, ap, ◌∙◌, subst, arith}
use Rattle.sk_base.specs.declared.find.Paging.{Paging}
use Rattle.sk_base.specs.declared.report.Report.{Report}
use Rattle.sk_base.specs.Numbers.{Docs}
use Rattle.sk_sorted.specs.Entries.{first_id}
use Rattle.sk_sorted.proofs.EntryLaws.{length_fits}
use Rattle.sk_query.specs.Trees as Query
use Rattle.sk_model.specs.Allowance.{leaf_readings}
use Rattle.sk_model.specs.Bounds.{ceil, static_count}
use Rattle.sk_model.specs.Counts.{wanted}
use Rattle.sk_model.specs.Matches.{found_by}
use Rattle.sk_model.specs.Settled.{stop_point}
use Rattle.sk_model.specs.Sharp.{ups, rare_readings}
use Rattle.sk_model.proofs.CountLaws.{found_within}
use Rattle.sk_model.proofs.StaticLaws.{static_live}
use Rattle.sk_report.specs.Reports.{ReportsFor}
use Rattle.sk_index.specs.Indexed.{Indexed}
use Rattle.sk_tree.specs.Stops.{PaysToStop}
use Rattle.sk_tree.specs.Rare.{Rare}
use Rattle.sk_tree.specs.Decays.{Decays}
use Rattle.sk_tree.specs.Built.{gives, left}
use Rattle.sk_page.specs.Needs.{is_settled, is_whole}
use Rattle.sk_page.specs.Tells.{IsSpent}
use Rattle.sk_page.specs.Views.{MayReport, Reports}
use Rattle.sk_page.proofs.EndLaws as Ends
use Rattle.sk_match.specs.Searches.{Stands, is_done}
use Rattle.sk_match.specs.declared.open_search.Search.{Search}

-- when a search is done
pub done_at_end : (i : Indexed) (s : Search) → None ≡ first_id (left i s.tree) → is_done i s ≡ true
done_at_end i s e = ap (λ o. is_none o || is_settled s.page.options s.page.seen s.page.heap s.tree.top.greatest) (sym e)

pub done_settled : (i : Indexed) (s : Search) → is_settled s.page.options s.page.seen s.page.heap s.tree.top.greatest ≡ true → is_done i s ≡ true
done_settled i s e = ap (λ b. is_none (first_id (left i s.tree)) || b) e ∙ or_true (is_none (first_id (left i s.tree)))
  where
    or_true : (b : Bool) → (b || true) ≡ true
    or_true true = refl
    or_true false = refl

-- what a tree spent, by each account that bounds it
pub record IsSpentBy (i : Indexed) (s : Search) (query : Query.Tree) (spent : ℕ) : Type 0 where
  pub within : spent ≤ leaf_readings query i.live.documents
  pub stops : (point most : ℕ) → PaysToStop i s.tree point most → spent ≤ most
  pub rare : (most : ℕ) → Rare i s.tree most → spent ≤ most
  pub decays : (point greatest most : ℕ) → Decays i s.tree point greatest most → spent ≤ most

module _ (i : Indexed) (s : Search) (paging : Paging) (query : Query.Tree) (stands : Stands s i paging query) where
  abbrev docs : Docs
  docs = i.live.documents

  abbrev greatest : ℕ
  greatest = ceil query paging.options.scheme 1 docs

  found : length (found_by query paging docs) ≤ static_count query docs
  found = found_within query paging 1 docs stands.sound

  small : static_count query docs < 2 ^ 32
  small =
      let live = static_live docs query in
      let few = length_fits docs stands.built.tree.documents in
      omega (arith, live, few)

  pub lists_spent : (spent : ℕ) → IsSpentBy i s query spent → IsSpent query paging docs spent
  lists_spent spent by = record {
    lists = by.within;
    rare = λ lists m is. by.rare (rare_readings lists m docs) (stands.accounts.rare lists m is);
    stop = λ plain lists flat. by.stops (stop_point query paging docs) (ups lists (stop_point query paging docs) docs) (stands.accounts.stops plain lists flat);
    decay = λ plain ts a b is terms. let both = stands.accounts.decays plain ts a b is terms in (by.decays _ _ _ both.0, by.decays _ _ _ both.1);
  }

  module _ (ceiling : ℕ) (is : ceiling ≡ s.tree.top.greatest) (most : (id : ℕ) → unwrap_or (gives i s.tree id) 0 ≤ ceiling) (done : is_done i s ≡ true) where
    done_there : (is_none (first_id (left i s.tree)) || is_settled s.page.options s.page.seen s.page.heap ceiling) ≡ true
    done_there = subst (λ n. (is_none (first_id (left i s.tree)) || is_settled s.page.options s.page.seen s.page.heap n) ≡ true) (sym is) done

    -- as many were seen as are wanted, or all
    pub seen_enough : min (wanted paging) (length (found_by query paging docs)) ≤ s.page.seen
    seen_enough = Ends.seen_enough query paging docs greatest (gives i s.tree) s.need s.page stands.page ceiling most done_there

    module _ (whole : Bool) (tells : whole ≡ is_whole s.page.options s.need (is_none (first_id (left i s.tree))) ceiling) where
      pub may_report : MayReport s.page s.bounds.most whole
      may_report =
          subst (λ b. MayReport s.page b.most whole) (sym stands.bounds)
          (Ends.may_report query paging docs greatest (gives i s.tree) s.need s.page stands.page ceiling most done_there (omega (arith, is, stands.built.ceiling)) stands.low (static_count query docs) found small whole (sym tells))

      pub finished : (spent : ℕ) → IsSpentBy i s query spent → (report : Report) → Reports docs s.page s.bounds whole spent report → ReportsFor query paging docs report
      finished spent by report reports =
          Ends.reported query paging docs greatest (gives i s.tree) s.need s.page stands.page ceiling most done_there (omega (arith, is, stands.built.ceiling)) stands.low (static_count query docs) found whole (sym tells) spent (lists_spent spent by) report
          (subst (λ b. Reports docs s.page b whole spent report) stands.bounds reports)
