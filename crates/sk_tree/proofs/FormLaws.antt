-- A query that has no parts is of one of the other forms.
use Rattle.std.proofs.Common.{◌≡◌, ℕ, List, None, Some, sym, ap, ◌∙◌, Box, Global}
use Rattle.sk_query.specs.declared.form.Form.{Form}
use Rattle.sk_query.specs.declared.query.Bound.{Bound}
use Rattle.sk_query.specs.declared.query.Query.{Query}
use Rattle.sk_query.specs.declared.query.Query.TheOpen.{Query-F}
use Rattle.sk_query.specs.declared.query.Query.TheViews.{roll-Query}
use Rattle.sk_query.specs.declared.query.Query.TheFolds.{ind-Query, fold-roll-Query}
use Rattle.sk_query.specs.declared.query.Query.TheVariants.{rolls-Nothing, rolls-All, rolls-Term, rolls-Wildcard, rolls-Near, rolls-Phrase, rolls-Synonym, rolls-Scale, rolls-Range}
use Rattle.sk_query.specs.declared.query.Query.TheVariants as Query
use Rattle.sk_query.specs.Trees as Trees
use Rattle.sk_query.specs.Trees.{query_view, query_step, form_of}

none_some : (p : Form × Trees.Trees) → Some p ≡ None → ⊥
none_some p e = cc

no_parts : (tree : Trees.Tree) (form : Form) (ts : Trees.Trees) → tree ≡ Trees.parts form ts → form_of tree ≡ None → ⊥
no_parts tree form ts e none = none_some (form, ts) (ap form_of (sym e) ∙ none)

-- no other form is left
abbrev NoneLeft : Query → Type 0
NoneLeft q = form_of (query_view q) ≡ None → (q ≡ Query.Nothing → ⊥) → (q ≡ Query.All → ⊥) → ((t : List ℕ) → q ≡ Query.Term t → ⊥) → ((t : List ℕ) → q ≡ Query.Wildcard t → ⊥)
    → ((n : ℕ) (ts : List (List ℕ)) → q ≡ Query.Near n ts → ⊥) → ((n : ℕ) (ts : List (List ℕ)) → q ≡ Query.Phrase n ts → ⊥) → ((ts : List (List ℕ)) → q ≡ Query.Synonym ts → ⊥)
    → ((n : ℕ) (part : Box Query Global) → q ≡ Query.Scale n part → ⊥) → ((n : ℕ) (lo hi : Bound) → q ≡ Query.Range n lo hi → ⊥) → ⊥

pub none_left : (q : Query) → NoneLeft q
none_left = ind-Query NoneLeft (λ x y is. by x)
  where
    by : (x : Query-F Query) → NoneLeft (roll-Query x)
    by Query-F.Nothing none nothing all term wildcard near phrase synonym scale range = nothing rolls-Nothing
    by Query-F.All none nothing all term wildcard near phrase synonym scale range = all rolls-All
    by (Query-F.Term t) none nothing all term wildcard near phrase synonym scale range = term t (rolls-Term t)
    by (Query-F.Wildcard t) none nothing all term wildcard near phrase synonym scale range = wildcard t (rolls-Wildcard t)
    by (Query-F.Near n ts) none nothing all term wildcard near phrase synonym scale range = near n ts (rolls-Near n ts)
    by (Query-F.Phrase n ts) none nothing all term wildcard near phrase synonym scale range = phrase n ts (rolls-Phrase n ts)
    by (Query-F.Synonym ts) none nothing all term wildcard near phrase synonym scale range = synonym ts (rolls-Synonym ts)
    by (Query-F.Scale n part) none nothing all term wildcard near phrase synonym scale range = scale n part (rolls-Scale n part)
    by (Query-F.Range n lo hi) none nothing all term wildcard near phrase synonym scale range = range n lo hi (rolls-Range n lo hi)
    by (Query-F.And v) none nothing all term wildcard near phrase synonym scale range = no_parts _ Form.And _ (fold-roll-Query Trees.Tree query_step (Query-F.And v)) none
    by (Query-F.Or v) none nothing all term wildcard near phrase synonym scale range = no_parts _ Form.Or _ (fold-roll-Query Trees.Tree query_step (Query-F.Or v)) none
    by (Query-F.Xor v) none nothing all term wildcard near phrase synonym scale range = no_parts _ Form.Xor _ (fold-roll-Query Trees.Tree query_step (Query-F.Xor v)) none
    by (Query-F.Max v) none nothing all term wildcard near phrase synonym scale range = no_parts _ Form.Max _ (fold-roll-Query Trees.Tree query_step (Query-F.Max v)) none
    by (Query-F.AndNot v) none nothing all term wildcard near phrase synonym scale range = no_parts _ Form.AndNot _ (fold-roll-Query Trees.Tree query_step (Query-F.AndNot v)) none
    by (Query-F.AndMaybe v) none nothing all term wildcard near phrase synonym scale range = no_parts _ Form.AndMaybe _ (fold-roll-Query Trees.Tree query_step (Query-F.AndMaybe v)) none
    by (Query-F.Filter v) none nothing all term wildcard near phrase synonym scale range = no_parts _ Form.Filter _ (fold-roll-Query Trees.Tree query_step (Query-F.Filter v)) none
