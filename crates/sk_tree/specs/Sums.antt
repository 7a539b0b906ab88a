-- How the lists of terms that count as one are opened for one node of them all.
use Rattle.std.specs.Prelude.{◌≡◌, ◌≤◌, ◌+◌, ◌-◌, ◌*◌, ◌^◌, ℕ, List, length}
use Rattle.sk_base.specs.declared.find.Scheme.{Scheme}
use Rattle.sk_query.specs.declared.form.Form.{Form}
use Rattle.sk_query.specs.Trees as Query
use Rattle.sk_model.specs.Edits.{document_at}
use Rattle.sk_model.specs.Combining.{sum_of_any}
use Rattle.sk_index.specs.Indexed.{Indexed}
use Rattle.sk_nodes.specs.Shapes.{Sides}
use Rattle.sk_nodes.specs.Left.{rests, greatest_sum}
use Rattle.sk_nodes.specs.Sound.{AreSound}
use Rattle.sk_nodes.specs.Flat.{rooms_to, AreNests}
use Rattle.sk_tree.specs.Opened.{score_of}
use Rattle.sk_tree.specs.Nests.{entered}

-- Sides over the lists of these terms, one of each, were opened, with this spent before and after: together they give the wdfs of the terms, added, and each weighs no more than a wdf can.
pub record OpensSums (i : Indexed) (ss : Sides) (terms : List (List ℕ)) (before after : ℕ) : Type 0 where
  pub sound : AreSound i ss
  pub gives : (id : ℕ) → sum_of_any (rests i ss id) ≡ score_of (Query.synonym terms) Scheme.Nnn 1 (document_at id i.live.documents)
  pub ceiling : greatest_sum ss ≤ length terms * (2 ^ 29 - 1)
  pub nests : AreNests Form.Or ss
  pub account : (point : ℕ) → after + rooms_to i point ss ≤ before + entered terms point i.live.documents
