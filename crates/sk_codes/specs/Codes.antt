-- Queries told apart, as the model of a value wants its parts to be.
-- Source: Own.
use mathlib.Core.Path.{◌∙◌, ap, sym}
use Rattle.std.specs.Prelude.{◌≡◌, ℕ, suc, zero, List, [], ◌∷◌, refl}
use base.Stored.{Coded, Gv, gnil, gnum, gcons}
use Rattle.sk_query.specs.declared.form.Form.{Form}
use Rattle.sk_query.specs.Trees.{Limit, unbounded, number, bytes, Tree, nothing, all, term, wildcard, parts, near, phrase, synonym, scale, range, Trees, no_trees, tree}

abbrev num : Gv → ℕ
num gnil = 0
num (gnum n) = n
num (gcons a b) = 0

abbrev head : Gv → Gv
head gnil = gnil
head (gnum n) = gnil
head (gcons a b) = a

abbrev tail : Gv → Gv
tail gnil = gnil
tail (gnum n) = gnil
tail (gcons a b) = b

-- ---- bytes, and lists of them
abbrev text_code : List ℕ → Gv
text_code [] = gnil
text_code (n ∷ ns) = gcons (gnum n) (text_code ns)

abbrev text_back : Gv → List ℕ
text_back gnil = []
text_back (gnum n) = []
text_back (gcons a b) = num a ∷ text_back b

text_back-code : (ns : List ℕ) → text_back (text_code ns) ≡ ns
text_back-code [] = refl
text_back-code (n ∷ ns) = ap (λ ms. n ∷ ms) (text_back-code ns)

abbrev texts_code : List (List ℕ) → Gv
texts_code [] = gnil
texts_code (t ∷ ts) = gcons (text_code t) (texts_code ts)

abbrev texts_back : Gv → List (List ℕ)
texts_back gnil = []
texts_back (gnum n) = []
texts_back (gcons a b) = text_back a ∷ texts_back b

texts_back-code : (ts : List (List ℕ)) → texts_back (texts_code ts) ≡ ts
texts_back-code [] = refl
texts_back-code (t ∷ ts) = λ i. text_back-code t i ∷ texts_back-code ts i

-- ---- ends of ranges, and forms
abbrev limit_code : Limit → Gv
limit_code unbounded = gnil
limit_code (number n) = gnum n
limit_code (bytes text) = gcons gnil (text_code text)

abbrev limit_back : Gv → Limit
limit_back gnil = unbounded
limit_back (gnum n) = number n
limit_back (gcons a b) = bytes (text_back b)

limit_back-code : (l : Limit) → limit_back (limit_code l) ≡ l
limit_back-code unbounded = refl
limit_back-code (number n) = refl
limit_back-code (bytes text) = ap bytes (text_back-code text)

abbrev form_code : Form → ℕ
form_code Form.And = 0
form_code Form.Or = 1
form_code Form.Xor = 2
form_code Form.Max = 3
form_code Form.AndNot = 4
form_code Form.AndMaybe = 5
form_code Form.Filter = 6

abbrev form_back : ℕ → Form
form_back zero = Form.And
form_back (suc zero) = Form.Or
form_back (suc (suc zero)) = Form.Xor
form_back (suc (suc (suc zero))) = Form.Max
form_back (suc (suc (suc (suc zero)))) = Form.AndNot
form_back (suc (suc (suc (suc (suc zero))))) = Form.AndMaybe
form_back (suc (suc (suc (suc (suc (suc n)))))) = Form.Filter

form_back-code : (form : Form) → form_back (form_code form) ≡ form
form_back-code Form.And = refl
form_back-code Form.Or = refl
form_back-code Form.Xor = refl
form_back-code Form.Max = refl
form_back-code Form.AndNot = refl
form_back-code Form.AndMaybe = refl
form_back-code Form.Filter = refl

-- ---- queries
abbrev mutual
  pub tree_code : Tree → Gv
  tree_code nothing = gcons (gnum 0) gnil
  tree_code all = gcons (gnum 1) gnil
  tree_code (term t) = gcons (gnum 2) (text_code t)
  tree_code (wildcard t) = gcons (gnum 3) (text_code t)
  tree_code (near w ts) = gcons (gnum 4) (gcons (gnum w) (texts_code ts))
  tree_code (phrase w ts) = gcons (gnum 5) (gcons (gnum w) (texts_code ts))
  tree_code (synonym ts) = gcons (gnum 6) (texts_code ts)
  tree_code (scale f t) = gcons (gnum 7) (gcons (tree_code t) (gnum f))
  tree_code (range slot lo hi) = gcons (gnum 8) (gcons (gnum slot) (gcons (limit_code lo) (limit_code hi)))
  tree_code (parts form ts) = gcons (gcons (gnum (form_code form)) gnil) (trees_code ts)

  trees_code : Trees → Gv
  trees_code no_trees = gnil
  trees_code (tree t ts) = gcons (tree_code t) (trees_code ts)

abbrev first_tree : Trees → Tree
first_tree no_trees = nothing
first_tree (tree t ts) = t

abbrev by_tag : ℕ → Gv → Trees → Tree
by_tag zero g ts = nothing
by_tag (suc zero) g ts = all
by_tag (suc (suc zero)) g ts = term (text_back g)
by_tag (suc (suc (suc zero))) g ts = wildcard (text_back g)
by_tag (suc (suc (suc (suc zero)))) g ts = near (num (head g)) (texts_back (tail g))
by_tag (suc (suc (suc (suc (suc zero))))) g ts = phrase (num (head g)) (texts_back (tail g))
by_tag (suc (suc (suc (suc (suc (suc zero)))))) g ts = synonym (texts_back g)
by_tag (suc (suc (suc (suc (suc (suc (suc zero))))))) g ts = scale (num (tail g)) (first_tree ts)
by_tag (suc (suc (suc (suc (suc (suc (suc (suc n)))))))) g ts = range (num (head g)) (limit_back (head (tail g))) (limit_back (tail (tail g)))

abbrev by_head : Gv → Gv → Trees → Tree
by_head gnil g ts = nothing
by_head (gnum n) g ts = by_tag n g ts
by_head (gcons a b) g ts = parts (form_back (num a)) ts

abbrev pub back : Gv → Tree × Trees
back gnil = (nothing, no_trees)
back (gnum n) = (nothing, no_trees)
back (gcons a b) = (by_head a b (back b).1, tree (back a).0 (back b).1)

mutual
  pub tree_back-code : (t : Tree) → (back (tree_code t)).0 ≡ t
  tree_back-code nothing = refl
  tree_back-code all = refl
  tree_back-code (term t) = ap term (text_back-code t)
  tree_back-code (wildcard t) = ap wildcard (text_back-code t)
  tree_back-code (near w ts) = ap (near w) (texts_back-code ts)
  tree_back-code (phrase w ts) = ap (phrase w) (texts_back-code ts)
  tree_back-code (synonym ts) = ap synonym (texts_back-code ts)
  tree_back-code (scale f t) = ap (scale f) (tree_back-code t)
  tree_back-code (range slot lo hi) = λ i. range slot (limit_back-code lo i) (limit_back-code hi i)
  tree_back-code (parts form ts) = λ i. parts (form_back-code form i) (trees_back-code ts i)

  trees_back-code : (ts : Trees) → (back (trees_code ts)).1 ≡ ts
  trees_back-code no_trees = refl
  trees_back-code (tree t ts) = λ i. tree (tree_back-code t i) (trees_back-code ts i)

abbrev pub coded_tree : Coded Tree
coded_tree = record { code = tree_code; inj = λ x y p. sym (tree_back-code x) ∙ ap (λ g. (back g).0) p ∙ tree_back-code y }
