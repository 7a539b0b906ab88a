-- What a call knows of one match more.
use Rattle.std.proofs.Common.{◌≡◌, ◌≢◌, ◌+◌, ℕ, true, false, ◌==◌, List, ◌∷◌, length, bytes_eq, All, sym, ap, ◌∙◌, subst}
use Rattle.sk_base.specs.declared.rank.Rank.{Rank}
use Rattle.sk_model.specs.Page.{place}
use Rattle.sk_collapse.specs.Collapsed.{Collapsed, Group, Knows, group_of, kept_in}
use Rattle.sk_collapse.specs.Verdicts.{Judges, verdict_of}
use Rattle.sk_collapse.specs.declared.verdict.Verdict.{Verdict}
use Rattle.sk_collapse.specs.Groups.{fallen, group_with}
use Rattle.sk_collapse.proofs.CollapseLaws.{judged_empty, knows_empty, knows_keyed, knows_judges}

module _ (before inside : Collapsed) (same : inside ≡ before) (key : List ℕ) (x : Rank) where
  pub seen_empty : (length key == 0) ≡ true → (f : Rank → List ℕ) (ranks : List Rank) → Knows before f ranks → f x ≡ key → All (λ r. r.id ≢ x.id) ranks
      → Knows (record inside { seen = inside.seen + 1; kept = inside.kept + 1 }) f (x ∷ ranks)
      × (kept_in before.order before.most f (x ∷ ranks) ≡ place before.order x (kept_in before.order before.most f ranks))
  seen_empty none f ranks known agrees apart =
      let empty : (length (f x) == 0) ≡ true = ap (λ (k : List ℕ). length k == 0) agrees ∙ none in (
        subst (λ (c : Collapsed). Knows (record c { seen = c.seen + 1; kept = c.kept + 1 }) f (x ∷ ranks)) (sym same) (knows_empty before f ranks known x apart empty),
        judged_empty before.order before.most f ranks x known.differ apart empty,
      )

  pub seen_keyed : (length key == 0) ≡ false → (copy : Rank) → copy ≡ x
      → (kept : ℕ) (groups : List (List ℕ × Group)) (gone : List Rank)
      → group_of key groups ≡ group_with inside.order inside.most copy (group_of key inside.groups)
      → ((k : List ℕ) → bytes_eq key k ≡ false → group_of k groups ≡ group_of k inside.groups)
      → gone ≡ fallen inside.order inside.most copy (group_of key inside.groups).kept
      → kept + length gone ≡ inside.kept + 1
      → (after : Collapsed) → after ≡ record inside { seen = inside.seen + 1; kept = kept; groups = groups }
      → (verdict : Verdict) → verdict ≡ verdict_of x.id gone
      → (f : Rank → List ℕ) (ranks : List Rank) → Knows before f ranks → f x ≡ key → All (λ r. r.id ≢ x.id) ranks
      → Knows after f (x ∷ ranks)
      × Judges verdict before.order f x (kept_in before.order before.most f ranks) (kept_in before.order before.most f (x ∷ ranks))
  seen_keyed long copy copied kept groups gone here others out count after after_is verdict verdict_is f ranks known agrees apart =
      let some : (length (f x) == 0) ≡ false = ap (λ (k : List ℕ). length k == 0) agrees ∙ long in
      let known_inside : Knows inside f ranks = subst (λ (c : Collapsed). Knows c f ranks) (sym same) known in
      let here_own : group_of (f x) groups ≡ group_with inside.order inside.most x (group_of (f x) inside.groups) =
      subst (λ (k : List ℕ). group_of k groups ≡ group_with inside.order inside.most x (group_of k inside.groups)) (sym agrees)
      (subst (λ (y : Rank). group_of key groups ≡ group_with inside.order inside.most y (group_of key inside.groups)) copied here) in
      let others_own : (k : List ℕ) → bytes_eq (f x) k ≡ false → group_of k groups ≡ group_of k inside.groups =
      subst (λ (j : List ℕ). (k : List ℕ) → bytes_eq j k ≡ false → group_of k groups ≡ group_of k inside.groups) (sym agrees) others in
      let out_own : gone ≡ fallen inside.order inside.most x (group_of (f x) inside.groups).kept =
      subst (λ (k : List ℕ). gone ≡ fallen inside.order inside.most x (group_of k inside.groups).kept) (sym agrees)
      (subst (λ (y : Rank). gone ≡ fallen inside.order inside.most y (group_of key inside.groups).kept) copied out) in (
        subst (λ (c : Collapsed). Knows c f (x ∷ ranks)) (sym after_is)
            (knows_keyed inside f ranks known_inside x apart some kept groups (ap (λ (ys : List Rank). kept + length ys) (sym out_own) ∙ count) here_own others_own),
        subst (λ (c : Collapsed). Judges verdict c.order f x (kept_in c.order c.most f ranks) (kept_in c.order c.most f (x ∷ ranks))) same
            (subst (λ (v : Verdict). Judges v inside.order f x (kept_in inside.order inside.most f ranks) (kept_in inside.order inside.most f (x ∷ ranks))) (sym verdict_is)
            (subst (λ (g : List Rank). Judges (verdict_of x.id g) inside.order f x (kept_in inside.order inside.most f ranks) (kept_in inside.order inside.most f (x ∷ ranks))) (sym out_own)
            (knows_judges inside f ranks known_inside x apart some))),
      )
