-- What is written for a tree that fits is read as that tree.
use Rattle.std.proofs.Common.{◌≡◌, ◌≤◌, ◌*◌, ◌||◌, ℕ, Bool, true, false, true≢false, if◌then◌else◌, List, [], ◌∷◌, Option, Some, None, refl, sym, ap, ◌∙◌, arith}
use Rattle.std.specs.Option.{option_map, option_and_then}
use Rattle.sk_base.proofs.Tests.{first_so, second_so}
use Rattle.serde_json.specs.Data.{array, item, number, unsigned, depth, items_depth}
use Rattle.serde_json.specs.Written.{has_float, items_have_float}
use Rattle.sk_json.specs.Values.{texts_of}
use Rattle.sk_query.specs.declared.form.Form.{Form}
use Rattle.sk_query.specs.Trees.{Limit, unbounded, Tree, nothing, all, term, wildcard, parts, near, phrase, synonym, scale, range, Trees, no_trees, tree, name_of}
use Rattle.sk_query.specs.Trees.{number as number_limit, bytes as bytes_limit}
use Rattle.sk_query.specs.Fits.{is_window, is_factor, is_slot, is_sound, are_sound, depth_of, depth_in, fits_tree}
use Rattle.sk_query_json.specs.Reading.{number_if, window_and_texts, limit_of_value, parts_named, read_tree, read_named, read_trees, fitting, tree_of}
use Rattle.sk_query_json.specs.Writing.{strings_of, json_of_limit, json_of, json_of_all}

pub form_named : (form : Form) → parts_named (name_of form) ≡ Some form
form_named Form.And = refl
form_named Form.Or = refl
form_named Form.Xor = refl
form_named Form.Max = refl
form_named Form.AndNot = refl
form_named Form.AndMaybe = refl
form_named Form.Filter = refl

texts_back : (texts : List (List ℕ)) → texts_of (strings_of texts) ≡ Some texts
texts_back [] = refl
texts_back (text ∷ texts) = ap (option_map (λ more. text ∷ more)) (texts_back texts)

limit_back : (limit : Limit) → limit_of_value (json_of_limit limit) ≡ Some limit
limit_back unbounded = refl
limit_back (number_limit n) = refl
limit_back (bytes_limit s) = refl

number_back : (test : ℕ → Bool) (n : ℕ) → test n ≡ true → number_if test (number (unsigned n)) ≡ Some n
number_back test n h = ap (λ b. if b then Some n else None) h

pair : {A B C : Type 0} (f : A → B → C) (x : A) (y : B) (o : Option A) (p : Option B) → o ≡ Some x → p ≡ Some y
    → option_and_then (λ a. option_map (f a) p) o ≡ Some (f x y)
pair f x y o p e h = λ i. option_and_then (λ a. option_map (f a) (h i)) (e i)

window_back : (w : ℕ) (texts : List (List ℕ)) → is_window w ≡ true → window_and_texts (item (number (unsigned w)) (strings_of texts)) ≡ Some (w, texts)
window_back w texts h = pair {C = ℕ × List (List ℕ)} (λ a b. (a, b)) w texts _ _ (number_back is_window w h) (texts_back texts)

parts_back : (form : Form) (ts : Trees) → read_trees (json_of_all ts) ≡ Some ts → read_tree (json_of (parts form ts)) ≡ Some (parts form ts)
parts_back form ts h = (λ i. read_named (form_named form i) (name_of form) (array (json_of_all ts))) ∙ ap (option_map (parts form)) h

scale_back : (f : ℕ) (t : Tree) → is_factor f ≡ true → read_tree (json_of t) ≡ Some t → read_tree (json_of (scale f t)) ≡ Some (scale f t)
scale_back f t h e = pair scale f t _ _ (number_back is_factor f h) e

range_back : (slot : ℕ) (lo hi : Limit) → is_slot slot ≡ true → read_tree (json_of (range slot lo hi)) ≡ Some (range slot lo hi)
range_back slot lo hi h =
    (λ i. option_and_then (λ s. option_and_then (λ from. option_map (range s from) (limit_back hi i)) (limit_back lo i)) (number_back is_slot slot h i))

mutual
  pub sound_back : (above : ℕ) (t : Tree) → is_sound above t ≡ true → read_tree (json_of t) ≡ Some t
  sound_back above nothing h = refl
  sound_back above all h = refl
  sound_back above (term text) h = refl
  sound_back above (wildcard prefix) h = refl
  sound_back above (parts form ts) h = parts_back form ts (all_back above ts (second_so _ _ h))
  sound_back above (near w texts) h = ap (option_map (λ p. near p.0 p.1)) (window_back w texts (first_so _ _ h))
  sound_back above (phrase w texts) h = ap (option_map (λ p. phrase p.0 p.1)) (window_back w texts (first_so _ _ h))
  sound_back above (synonym []) h = absurd (true≢false (sym h))
  sound_back above (synonym (text ∷ texts)) h = ap (option_map synonym) (texts_back (text ∷ texts))
  sound_back above (scale f t) h = scale_back f t (first_so _ _ (first_so _ _ h)) (sound_back (above * f) t (second_so _ _ h))
  sound_back above (range slot lo hi) h = range_back slot lo hi h

  all_back : (above : ℕ) (ts : Trees) → are_sound above ts ≡ true → read_trees (json_of_all ts) ≡ Some ts
  all_back above no_trees h = refl
  all_back above (tree t ts) h = pair tree t ts _ _ (sound_back above t (first_so _ _ h)) (all_back above ts (second_so _ _ h))

-- The value of a tree that fits is read as that tree.
pub read_back : (t : Tree) → fits_tree t ≡ true → tree_of (json_of t) ≡ Some t
read_back t h = ap (option_and_then fitting) (sound_back 1 t (first_so _ _ (first_so _ _ h))) ∙ ap (λ b. if b then Some t else None) h

-- Each query nests at most two arrays and objects.
strings_flat : (texts : List (List ℕ)) → items_depth (strings_of texts) ≡ 0
strings_flat [] = refl
strings_flat (text ∷ texts) = let h = strings_flat texts in omega arith

limit_flat : (limit : Limit) → depth (json_of_limit limit) ≡ 0
limit_flat unbounded = refl
limit_flat (number_limit n) = refl
limit_flat (bytes_limit s) = refl

mutual
  pub twice_as_deep : (t : Tree) → depth (json_of t) ≤ 2 * depth_of t
  twice_as_deep nothing = omega arith
  twice_as_deep all = omega arith
  twice_as_deep (term text) = omega arith
  twice_as_deep (wildcard prefix) = omega arith
  twice_as_deep (parts form ts) = let h = all_twice_as_deep ts in omega arith
  twice_as_deep (near w texts) = let h = strings_flat texts in omega arith
  twice_as_deep (phrase w texts) = let h = strings_flat texts in omega arith
  twice_as_deep (synonym texts) = let h = strings_flat texts in omega arith
  twice_as_deep (scale f t) = let h = twice_as_deep t in omega arith
  twice_as_deep (range slot lo hi) = let h = limit_flat lo in let k = limit_flat hi in omega arith

  all_twice_as_deep : (ts : Trees) → items_depth (json_of_all ts) ≤ 2 * depth_in ts
  all_twice_as_deep no_trees = omega arith
  all_twice_as_deep (tree t ts) = let h = twice_as_deep t in let k = all_twice_as_deep ts in omega arith

-- It has no float, so its text is known.
no_float_in_strings : (texts : List (List ℕ)) → items_have_float (strings_of texts) ≡ false
no_float_in_strings [] = refl
no_float_in_strings (text ∷ texts) = no_float_in_strings texts

no_float_in_limit : (limit : Limit) → has_float (json_of_limit limit) ≡ false
no_float_in_limit unbounded = refl
no_float_in_limit (number_limit n) = refl
no_float_in_limit (bytes_limit s) = refl

mutual
  pub no_float : (t : Tree) → has_float (json_of t) ≡ false
  no_float nothing = refl
  no_float all = refl
  no_float (term text) = refl
  no_float (wildcard prefix) = refl
  no_float (parts form ts) = ap (λ b. b || false) (no_float_in_all ts)
  no_float (near w texts) = ap (λ b. b || false) (no_float_in_strings texts)
  no_float (phrase w texts) = ap (λ b. b || false) (no_float_in_strings texts)
  no_float (synonym texts) = ap (λ b. b || false) (no_float_in_strings texts)
  no_float (scale f t) = ap (λ b. (b || false) || false) (no_float t)
  no_float (range slot lo hi) = λ i. (no_float_in_limit lo i || (no_float_in_limit hi i || false)) || false

  no_float_in_all : (ts : Trees) → items_have_float (json_of_all ts) ≡ false
  no_float_in_all no_trees = refl
  no_float_in_all (tree t ts) = λ i. no_float t i || no_float_in_all ts i
