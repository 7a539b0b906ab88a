-- A node that stands at its first match: what it gives, and what its list has left.
use Rattle.std.specs.Prelude.{◌≡◌, ◌≤◌, ◌<◌, ◌+◌, ◌^◌, ℕ, Option}
use Rattle.sk_query.specs.declared.form.Form.{Form}
use Rattle.sk_model.specs.Combining.{combined}
use Rattle.sk_index.specs.Indexed.{Indexed}
use Rattle.sk_nodes.specs.declared.top.Top.{Top}
use Rattle.sk_nodes.specs.Shapes.{Shape, Sides}
use Rattle.sk_nodes.specs.Left.{rest, rests, greatest_sum, greatest_held}
use Rattle.sk_nodes.specs.Sound.{IsTop, Sound}
use Rattle.sk_nodes.specs.Led.{IsLone, lead_head, lead_unread, IsAtLead, count_behind}
use Rattle.sk_chunks.specs.Postings.{Postings}
use Rattle.sk_lists.specs.Seeks.{count_to}
use Rattle.sk_nodes.specs.Flat.{room_to}
use Rattle.sk_nodes.specs.Fading.{entries_behind, StandsOn}

-- A node stands at the first of these weights, and gives them; it weighs no more than this.
pub record Yields (i : Indexed) (t : Top) (s : Shape) (f : ℕ → Option ℕ) (most : ℕ) : Type 0 where
  pub top : IsTop i t s
  pub sound : Sound i s
  pub gives : (id : ℕ) → rest i s id ≡ f id
  pub ceiling : t.greatest ≤ most

-- A node yields what a form makes of sides, and weighs no more than they do together.
abbrev pub Gathers : Indexed → Form → Sides → Top → Shape → Type 0
Gathers i form ss t s = Yields i t s (λ id. combined form (rests i ss id)) (greatest_sum ss)

-- A leaf over a list so long, or nothing, was opened, with this spent before and after.
pub record OpensLone (i : Indexed) (t : Top) (s : Shape) (long : ℕ) (before after : ℕ) : Type 0 where
  pub lone : IsLone s
  pub at : IsAtLead i t s
  pub few : after ≤ before + 1
  pub paid : after + lead_unread i s ≤ before + long
  pub within : lead_unread i s ≤ long
  pub begun : lead_head i s < 2 ^ 32 → lead_unread i s < long

-- A leaf over a list, or nothing, has no more left up to a point and behind it than the list; nothing of it weighs more than the greatest.
pub record Begins (i : Indexed) (t : Top) (s : Shape) (list : Postings) (greatest : ℕ) : Type 0 where
  pub stands : StandsOn i t s
  pub own : greatest_held s ≤ greatest
  pub to : (point : ℕ) → room_to i point s ≤ count_to point list
  pub behind : (point : ℕ) → entries_behind i point s ≤ count_behind point list
