-- The text of a report.
use Rattle.std.specs.Prelude.{ℕ, ◌+◌, List, [], ◌∷◌, ◌++◌, length, codes, decimal}
use Rattle.json.specs.Print.{quoted}
use Rattle.sk_base.specs.declared.report.Ranked.{Ranked}
use Rattle.sk_base.specs.declared.report.Report.{Report}

-- The second half of a found line, from ` upper=` on.
abbrev pub found_rest : Report → List ℕ
found_rest report = codes " upper=" ++ (decimal report.upper ++ (codes " max=" ++ (decimal report.greatest ++ (codes " steps=" ++ (decimal report.steps ++ codes "\n")))))

-- `found` with the number of hits, the bounds, the greatest weight and the steps.
abbrev pub found_line : Report → List ℕ
found_line report = (codes "found hits=" ++ (decimal (length report.hits) ++ (codes " lower=" ++ (decimal report.lower ++ (codes " estimate=" ++ decimal report.estimate))))) ++ found_rest report

-- `hit` with its rank, id, weight, the number that were collapsed into it, and its payload as a JSON string.
abbrev pub hit_line : ℕ → Ranked → List ℕ
hit_line rank hit =
    codes "hit rank=" ++ (decimal rank ++ (codes " id=" ++ (decimal hit.id ++ (codes " weight=" ++ (decimal hit.weight
    ++ (codes " collapsed=" ++ (decimal hit.collapsed ++ (codes " data=" ++ (quoted hit.payload ++ codes "\n")))))))))

-- The hits' lines, their ranks from the first on.
abbrev pub hit_lines : ℕ → List Ranked → List ℕ
hit_lines rank [] = []
hit_lines rank (hit ∷ hits) = hit_line rank hit ++ hit_lines (rank + 1) hits

-- A report's line and the lines of its hits.
abbrev pub found_text : ℕ → Report → List ℕ
found_text first report = found_line report ++ hit_lines first report.hits
