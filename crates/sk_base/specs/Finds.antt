-- Finds: which keep their bounds, and the same over another type of trees.
use Rattle.std.specs.Prelude.{◌≤◌, ◌+◌, false, length, None, IfSome}
use Rattle.sk_base.specs.declared.find.Ask.{Ask}
use Rattle.sk_base.specs.declared.find.Find.{Find}
use Rattle.sk_base.specs.declared.find.Options.{Options}
use Rattle.sk_base.specs.declared.find.Paging.{Paging}
use Rattle.sk_base.specs.declared.find.Scheme.{Scheme}
use Rattle.sk_base.specs.declared.rank.OrderBy.{OrderBy}
use Rattle.sk_base.specs.Records.{most_bytes}

-- A query text is not too long.
abbrev pub FitsAsk : {T : Type 0} → Ask T → Type 0
FitsAsk (Ask.Text text join) = length text ≤ most_bytes
FitsAsk (Ask.Tree tree) = Unit {0}

-- The page ends within the first 100,000 hits, and a collapse keeps at least one document.
pub record FitsPaging (paging : Paging) : Type 0 where
  pub page : paging.options.first + paging.options.size ≤ 100000
  pub collapse : IfSome paging.collapse (λ c. 1 ≤ c.max)

-- The query and the page keep their bounds.
pub record FitsFind {T : Type 0} (find : Find T) : Type 0 where
  pub ask : FitsAsk find.ask
  pub paging : FitsPaging find.paging

-- The options of a find that says nothing of them.
abbrev pub default_options : Options
default_options = record { scheme = Scheme.Nnn; first = 0; size = 10; check = 0; cutoff = 0 }

-- The page of a find that says nothing of it: the first ten by relevance.
abbrev pub default_paging : Paging
default_paging = record { options = default_options; order = record { by = OrderBy.Relevance; falling = false }; collapse = None }

-- A query, its tree changed.
abbrev pub ask_over : {A B : Type 0} → (A → B) → Ask A → Ask B
ask_over f (Ask.Text text join) = Ask.Text text join
ask_over f (Ask.Tree tree) = Ask.Tree (f tree)

-- A find, its tree changed.
abbrev pub find_over : {A B : Type 0} → (A → B) → Find A → Find B
find_over f find = record { ask = ask_over f find.ask; paging = find.paging }
