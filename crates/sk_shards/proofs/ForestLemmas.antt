-- What the trees of several indexes give together.
use Rattle.std.proofs.Common.{◌∙◌, ◌≡◌, ◌<◌, ◌≤◌, ◌+◌, ℕ, zero, suc, List, [], ◌∷◌, length, map, set, slice_index_or, unwrap_or, refl, sym, ap, subst, arith}
use Rattle.std.proofs.lemmas.List.{length-map}
use Rattle.sk_base.specs.declared.find.Scheme.{Scheme}
use Rattle.sk_base.specs.Numbers.{Docs}
use Rattle.sk_sorted.specs.Joined.{joined, AllRise, given, give_at, give_joined}
use Rattle.sk_sorted.proofs.GiveLaws.{joined-given_each}
use Rattle.sk_query.specs.Trees as Query
use Rattle.sk_index.specs.Indexed.{Indexed}
use Rattle.sk_nodes.specs.Leaves.{AtMost}
use Rattle.sk_tree.specs.Built.{gives, IsTree}
use Rattle.sk_tree.specs.declared.tree.Tree.{Tree}
use Rattle.sk_shards.specs.Forests.{AreBuilt, docs_of, gives_of, gives_all, lefts, spent_in}

abbrev docs_in : Indexed → Docs
docs_in i = i.live.documents

pub built_long : (indexes : List Indexed) (trees : List Tree) (query : Query.Tree) (scheme : Scheme) → AreBuilt indexes trees query scheme → length trees ≡ length indexes
built_long [] [] query scheme built = refl
built_long [] (t ∷ trees) query scheme built = absurd built
built_long (i ∷ indexes) [] query scheme built = absurd built
built_long (i ∷ indexes) (t ∷ trees) query scheme built = ap suc (built_long indexes trees query scheme built.1)

pub gives_long : (indexes : List Indexed) (trees : List Tree) → length trees ≡ length indexes → length (gives_of indexes trees) ≡ length indexes
gives_long [] [] same = refl
gives_long [] (t ∷ trees) same = refl
gives_long (i ∷ indexes) [] same = absurd (omega (arith, same))
gives_long (i ∷ indexes) (t ∷ trees) same = ap suc (gives_long indexes trees (omega (arith, same)))

-- what is left together is what they give of all documents
pub ahead_is : (indexes : List Indexed) (trees : List Tree) → length trees ≡ length indexes → AllRise (map docs_in indexes) → joined (lefts indexes trees) ≡ given (gives_all indexes trees) (docs_of indexes)
ahead_is indexes trees same up =
    joined-given_each (gives_of indexes trees) (map docs_in indexes) (gives_long indexes trees same ∙ sym (length-map indexes docs_in)) up
    ∙ ap (λ n. given (give_joined n (gives_of indexes trees)) (docs_of indexes)) (length-map indexes docs_in)

-- a part gives no more than its tree does
pub gives_within : (indexes : List Indexed) (trees : List Tree) (query : Query.Tree) (scheme : Scheme) (part : ℕ) (t : Tree) (high : ℕ) → AreBuilt indexes trees query scheme → part < length trees → t ≡ slice_index_or trees part t
    → ((i : Indexed) → IsTree i t → AtMost high (gives i t)) → (own : ℕ) → unwrap_or (give_at (gives_of indexes trees) part own) 0 ≤ high
gives_within indexes [] query scheme part t high built l is most own = absurd (omega (arith, l))
gives_within [] (u ∷ trees) query scheme part t high built l is most own = absurd built
gives_within (i ∷ indexes) (u ∷ trees) query scheme zero t high built l is most own =
    subst (λ (v : Tree). unwrap_or (gives i v own) 0 ≤ high) is (most i (subst (λ (v : Tree). IsTree i v) (sym is) built.0.tree) own)
gives_within (i ∷ indexes) (u ∷ trees) query scheme (suc part) t high built l is most own = gives_within indexes trees query scheme part t high built.1 (omega (arith, l)) is most own

-- behind the last tree nothing is given
pub gives_beyond : (indexes : List Indexed) (trees : List Tree) (part own : ℕ) → length trees ≤ part → unwrap_or (give_at (gives_of indexes trees) part own) 0 ≡ 0
gives_beyond [] trees part own le = refl
gives_beyond (i ∷ indexes) [] part own le = refl
gives_beyond (i ∷ indexes) (u ∷ trees) zero own le = absurd (omega (arith, le))
gives_beyond (i ∷ indexes) (u ∷ trees) (suc part) own le = gives_beyond indexes trees part own (omega (arith, le))

-- where one tree moved, what it gives alone changed
pub gives-set : (indexes : List Indexed) (trees : List Tree) (part : ℕ) (i : Indexed) (t : Tree) → length trees ≡ length indexes → part < length indexes → i ≡ slice_index_or indexes part i
    → gives_of indexes (set trees part t) ≡ set (gives_of indexes trees) part (gives i t)
gives-set [] trees part i t same l is = absurd (omega (arith, l))
gives-set (x ∷ indexes) [] part i t same l is = absurd (omega (arith, same))
gives-set (x ∷ indexes) (u ∷ trees) zero i t same l is = ap (λ (j : Indexed). gives j t ∷ gives_of indexes trees) (sym is)
gives-set (x ∷ indexes) (u ∷ trees) (suc part) i t same l is = ap (λ fs. gives x u ∷ fs) (gives-set indexes trees part i t (omega (arith, same)) (omega (arith, l)) is)

-- its readings alone were added
pub spent-set : (trees : List Tree) (part : ℕ) (old new : Tree) → part < length trees → old ≡ slice_index_or trees part old → spent_in (set trees part new) + old.spent ≡ spent_in trees + new.spent
spent-set [] part old new l is = absurd (omega (arith, l))
spent-set (u ∷ trees) zero old new l is = let same : old.spent ≡ u.spent = ap (λ (t : Tree). t.spent) is in omega (arith, same)
spent-set (u ∷ trees) (suc part) old new l is = let rest = spent-set trees part old new (omega (arith, l)) is in omega (arith, rest)
