-- How the code sorts the units of a run.
use Rattle.std.specs.Prelude.{Bool, false, List}
use Rattle.sk_base.specs.declared.find.Join.{Join}
use Rattle.sk_query.specs.Trees.{Tree}
use Rattle.sk_grammar.specs.declared.token.Mark.{Mark}
use Rattle.sk_grammar.specs.Runs.{Unit, loves, is_loved, is_optional, is_wanted, loved_and_plain, all_of}

-- A mark that puts a unit before the plain ones: it counts only where a document need not have all.
abbrev pub leads_mark : Join → Mark → Bool
leads_mark Join.Or mark = loves mark
leads_mark Join.And mark = false

-- The units that lead, and the others.
abbrev pub leads : Join → Unit → Bool
leads Join.Or = is_loved
leads Join.And = λ u. false

abbrev pub follows : Join → Unit → Bool
follows Join.Or = is_optional
follows Join.And = is_wanted

-- The query of both.
abbrev pub base_from : Join → List Tree → List Tree → Tree
base_from Join.Or loved plain = loved_and_plain loved plain
base_from Join.And loved plain = all_of plain
