use Rattle.std.proofs.Common.{◌≡◌, ◌++◌, drop, option_map}
use Rattle.sk_query.specs.Trees.{queries_view}
use Rattle.sk_model.specs.Sharp.{terms_in}
use Rattle.sk_sharp.proofs.lists.terms_in.Given as goal

-- the terms so far, and those of the parts that are left, are all
abbrev pub invariant-parts : goal.invariant-parts
invariant-parts l =
    option_map (λ more. l.terms ++ more) (terms_in (queries_view (drop l.part-index l.parts))) ≡ terms_in (queries_view l.parts)
