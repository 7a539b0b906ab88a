-- What a node keeps that is moved on.
use Rattle.std.specs.Prelude.{◌≡◌, ◌≤◌, ◌+◌, ℕ, Bool}
use Rattle.sk_query.specs.declared.form.Form.{Form}
use Rattle.sk_index.specs.Indexed.{Indexed}
use Rattle.sk_nodes.specs.declared.top.Top.{Top}
use Rattle.sk_nodes.specs.Accounts.{Spends, Account, Keeps}
use Rattle.sk_nodes.specs.Shapes.{Shape, size_of}
use Rattle.sk_nodes.specs.Left.{rest, unread_of}
use Rattle.sk_nodes.specs.Sound.{Lands}
use Rattle.sk_nodes.specs.Flat.{room_to, IsFlat, IsPlain, MayGo, IsNest}
use Rattle.sk_nodes.specs.Led.{IsLone, lead_head, lead_unread, follow_room, led_room, IsAtLead, IsLed, Advances, IsFollowing}
use Rattle.sk_nodes.specs.Fading.{StandsOn, fading_room, IsFading, MayFade, LeafMoves, FadesUnder}

-- A node was moved on to a target under a need, with this spent and counted before and after: it lands there, weighs no more than `most`, is no more
-- nodes than it was, and pays for what it read.
pub record WasSought (i : Indexed) (target need most : ℕ) (spent spent_after steps steps_after : ℕ) (before after : Shape) (t : Top) : Type 0 where
  pub lands : Lands i target need before after t
  pub falls : t.greatest ≤ most
  pub smaller : size_of after ≤ size_of before
  pub spends : Spends (unread_of i before) (unread_of i after) spent spent_after steps steps_after

-- The kinds of nodes that have an account: flat and plain ones up to a point; those in which a list leads; and, behind a list with this head and so many
-- entries unread, a leaf alone or an or of leaves.
pub data Kind : Type 0 where
  flat_to : ℕ → Kind
  plain_to : ℕ → Kind
  with_lead : Kind
  lone_behind : ℕ → ℕ → Kind
  nest_behind : ℕ → ℕ → Kind

-- The account of a kind under a need. An or of leaves follows only where nothing is needed.
abbrev pub account_of : Indexed → ℕ → Kind → Account
account_of i need (flat_to point) = record { holds = λ s. IsFlat need s; may = λ target s. MayGo point target need (rest i s point); room = λ s. room_to i point s }
account_of i need (plain_to point) = record { holds = λ s. IsPlain s; may = λ target s. target ≤ point + 1; room = λ s. room_to i point s }
account_of i need with_lead = record { holds = λ s. IsLed i s; may = λ target s. Unit {0}; room = λ s. led_room i s }
account_of i need (lone_behind head unread) = record { holds = λ s. IsLone s; may = λ target s. IsFollowing target head; room = λ s. follow_room i head unread s }
account_of i need (nest_behind head unread) = record { holds = λ s. (need ≡ 0) × IsNest Form.Or s; may = λ target s. IsFollowing target head; room = λ s. follow_room i head unread s }

-- The account of two lists, of which one fades behind a point; nothing of it weighs more than the greatest. The other is the first where `first` is true.
abbrev pub fading_account : Indexed → ℕ → ℕ → Bool → Account
fading_account i point greatest first = record { holds = λ s. IsFading i greatest first s; may = λ target s. MayFade point target first s; room = λ s. fading_room i point first s }

-- A node was moved on from the target under the need, with this spent before and after: the account of each kind is kept, and a list that leads went on.
pub record Accounts (i : Indexed) (target need before after : ℕ) (old new : Shape) : Type 0 where
  pub keeps : (kind : Kind) → Keeps (account_of i need kind) target before after old new
  pub advances : IsLed i old → Advances (lead_head i old) (lead_unread i old) (lead_head i new) (lead_unread i new)

-- The same of a node that was sought, and has this top: where a list leads it stands there, and two lists may fade.
pub record SeekAccounts (i : Indexed) (target need before after : ℕ) (old new : Shape) (top : Top) : Type 0 where
  pub all : Accounts i target need before after old new
  pub at : IsLed i old → IsAtLead i top new
  pub moves : IsLone old → LeafMoves i target before after old top new
  pub fades : (point greatest : ℕ) (first : Bool) → Keeps (fading_account i point greatest first) target before after old new

-- The same of a node that had a top before, and was replaced by what is enough under the need.
pub record ReachAccounts (i : Indexed) (target need before after : ℕ) (old new : Shape) (was top : Top) : Type 0 where
  pub all : Accounts i target need before after old new
  pub at : IsLed i old → IsAtLead i was old → IsAtLead i top new
  pub moves : StandsOn i was old → LeafMoves i target before after old top new
  pub fades : FadesUnder i target need before after old new
