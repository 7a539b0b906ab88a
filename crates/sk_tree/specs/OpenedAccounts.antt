-- What the accounts of nodes begin with, by what they are opened for.
use Rattle.std.specs.Prelude.{◌≡◌, ◌≤◌, ◌+◌, ◌⊎◌, ℕ, min, List, [], ◌∷◌, length, Some}
use Rattle.sk_base.specs.declared.find.Scheme.{Scheme}
use Rattle.sk_base.specs.Numbers.{length_of}
use Rattle.sk_chunks.specs.Postings.{Postings}
use Rattle.sk_lists.specs.Seeks.{count_to}
use Rattle.sk_query.specs.declared.form.Form.{Form}
use Rattle.sk_query.specs.Trees as Query
use Rattle.sk_model.specs.Bounds.{term_ceil}
use Rattle.sk_model.specs.Sharp.{terms_in, flat_lists, rare_lists, rare_readings}
use Rattle.sk_index.specs.Indexed.{Indexed}
use Rattle.sk_nodes.specs.declared.top.Top.{Top}
use Rattle.sk_nodes.specs.Shapes.{Shape}
use Rattle.sk_nodes.specs.Flat.{room_to, IsNest}
use Rattle.sk_tree.specs.Nests.{IsJoint, OpensNest, OpensFlat}
use Rattle.sk_tree.specs.OpenedLed.{CanLead, OpensFollowing, OpensLed, OpensRare}
use Rattle.sk_nodes.specs.Begun.{OpensLone, Begins}
use Rattle.sk_tree.specs.OpenedFading.{OpensAlone, OpensFading}

-- A leaf over a list was opened, with this spent before and after; it weighs no more than the greatest.
pub record OpensList (i : Indexed) (t : Top) (s : Shape) (list : Postings) (greatest before after : ℕ) : Type 0 where
  pub nest : (form : Form) → IsNest form s
  pub entered : (point : ℕ) → after + room_to i point s ≤ before + (min 1 (length list) + count_to point list)
  pub lone : OpensLone i t s (length list) before after
  pub begins : Begins i t s list greatest

-- The leaf of a term was opened, or nothing, with this spent before and after; it weighs no more than the greatest.
pub record OpensTerm (i : Indexed) (t : Top) (s : Shape) (term : List ℕ) (greatest before after : ℕ) : Type 0 where
  pub nest : (form : Form) → OpensNest i form s (term ∷ []) before after
  pub lone : OpensLone i t s (length_of term i.live.documents) before after
  pub alone : OpensAlone i t s term greatest before after

-- The node of a query was opened, with this spent before and after: that of a term, one of terms alone, an or of two, and one in which a list leads.
pub record OpensQuery (i : Indexed) (query : Query.Tree) (scheme : Scheme) (factor : ℕ) (t : Top) (s : Shape) (before after : ℕ) : Type 0 where
  pub term : (term : List ℕ) → query ≡ Query.term term → OpensTerm i t s term (term_ceil scheme factor term i.live.documents) before after
  pub flat : (lists : List (List ℕ)) → flat_lists query i.live.documents ≡ Some lists → OpensFlat i s lists before after
  pub fading : (ts : Query.Trees) (x y : List ℕ) → query ≡ Query.parts Form.Or ts → terms_in ts ≡ Some (x ∷ y ∷ []) → OpensFading i scheme factor s x y before after
  pub rare : (lists : List (List ℕ)) (m : ℕ) → rare_lists query i.live.documents ≡ Some (lists, m) → OpensRare i t s (rare_readings lists m i.live.documents) before after

-- The node of parts was opened, with this spent before and after, where they are terms alone: a nest of them, one in which a list leads, one that follows a list, that of one term, and an or of two.
pub record OpensParts (i : Indexed) (form : Form) (ts : Query.Trees) (scheme : Scheme) (factor : ℕ) (t : Top) (s : Shape) (before after : ℕ) : Type 0 where
  pub nest : (lists : List (List ℕ)) → IsJoint form → terms_in ts ≡ Some lists → OpensNest i form s lists before after
  pub led : (lists : List (List ℕ)) → CanLead form lists → terms_in ts ≡ Some lists → OpensLed i form t s lists before after
  pub follows : (lists : List (List ℕ)) → (form ≡ Form.Or) ⊎ (length lists ≡ 1) → terms_in ts ≡ Some lists → OpensFollowing i s lists before after
  pub alone : (term : List ℕ) → terms_in ts ≡ Some (term ∷ []) → OpensAlone i t s term (term_ceil scheme factor term i.live.documents) before after
  pub fading : (x y : List ℕ) → form ≡ Form.Or → terms_in ts ≡ Some (x ∷ y ∷ []) → OpensFading i scheme factor s x y before after
