-- The words on terms, computed.
use Rattle.std.proofs.Common.{◌≡◌, ℕ, List, [], ◌∷◌, Some, None, true, false, codes, refl}
use Rattle.std.specs.declared.cmp.Ordering.TheVariants.{Less, Greater}
use Rattle.sk_dict.specs.Cuts.{cut}
use Rattle.sk_dict.specs.Terms.{term_at, number_of, number_for, with_term, term_cmp, begins_with}

abbrev three : List (List ℕ)
three = codes "fo" ∷ [] ∷ codes "foo" ∷ []

-- they stand one behind the other, the empty one between the two
packed : cut 0 (2 ∷ 2 ∷ 5 ∷ []) (codes "fofoo") ≡ three
packed = refl

-- a term has the number of the place where it came
known : number_of (codes "foo") three ≡ Some 2
known = refl

empty_term : number_of [] three ≡ Some 1
empty_term = refl

unknown : number_of (codes "f") three ≡ None
unknown = refl

next_number : number_for (codes "f") three ≡ 3
next_number = refl

-- a new term goes last, and one that is there stays
grown : term_at (with_term (codes "z") three) 3 ≡ codes "z"
grown = refl

not_grown : with_term (codes "fo") three ≡ three
not_grown = refl

-- byte by byte, and a term before those that it begins
before_longer : term_cmp (codes "fo") (codes "foo") ≡ Less
before_longer = refl

behind_lower : term_cmp (codes "fp") (codes "foo") ≡ Greater
behind_lower = refl

begins : begins_with (codes "foo") (codes "fo") ≡ true
begins = refl

does_not_begin : begins_with (codes "fo") (codes "foo") ≡ false
does_not_begin = refl

every_term_begins : begins_with [] [] ≡ true
every_term_begins = refl
