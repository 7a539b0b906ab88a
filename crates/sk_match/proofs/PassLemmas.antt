-- A tree that goes past a document.
use Rattle.std.proofs.Common.{◌≡◌, ◌+◌, ◌^◌, ℕ, cond, nat_le, [], ◌∷◌, Option, None, sym, subst, arith}
use Rattle.std.specs.List.{AllByRecursion}
use Rattle.std.proofs.lemmas.Bool.{lt-leb}
use Rattle.sk_base.specs.Numbers.{Docs}
use Rattle.sk_sorted.specs.Entries.{LieBelow, AreSorted}
use Rattle.sk_model.specs.Covers.{Covers, CoversAt}
use Rattle.sk_model.specs.Documents.{Document}
use Rattle.sk_index.specs.Indexed.{Indexed}
use Rattle.sk_tree.specs.Built.{gives, left}
use Rattle.sk_nodes.specs.Left.{from_on}
use Rattle.sk_tree.specs.declared.tree.Tree.{Tree}
use Rattle.sk_page.proofs.WalkLaws.{all_quiet}
use Rattle.sk_match.specs.Searches.{TreePasses}

each : (P : ℕ × Document → Type 0) → ((d : ℕ × Document) → P d) → (docs : Docs) → AllByRecursion P docs
each P f [] = tt
each P f (d ∷ docs) = (f d, each P f docs)

pub passed_by_seek : (i : Indexed) (id need : ℕ) (old new : Tree) → Covers (from_on (id + 1) (gives i old)) (gives i new) need → TreePasses i id old new need
passed_by_seek i id need old new over = each (λ d. CoversAt (from_on (id + 1) (gives i old) d.0) (gives i new d.0) need) (λ d. over d.0) i.live.documents

closed : (give give2 : ℕ → Option ℕ) (id need : ℕ) (docs : Docs) → id ≡ 4294967295 → LieBelow (2 ^ 32) docs → AllByRecursion (λ (d : ℕ × Document). give2 d.0 ≡ None) docs
    → AllByRecursion (λ (d : ℕ × Document). CoversAt (cond (nat_le (id + 1) d.0) (give d.0) None) (give2 d.0) need) docs
closed give give2 id need [] last low quiet = tt
closed give give2 id need (d ∷ docs) last low quiet = (
  subst (λ b. CoversAt (cond b (give d.0) None) (give2 d.0) need) (sym (lt-leb (id + 1) d.0 (omega (arith, last, low.0)))) (subst (λ o. CoversAt None o need) (sym quiet.0) tt),
  closed give give2 id need docs last low.1 quiet.1,
)

pub passed_by_close : (i : Indexed) (id need : ℕ) (old new : Tree) → id ≡ 4294967295 → AreSorted i.live.documents → left i new ≡ [] → TreePasses i id old new need
passed_by_close i id need old new last sorted none = closed (gives i old) (gives i new) id need i.live.documents last sorted.small (all_quiet (gives i new) i.live.documents none)
