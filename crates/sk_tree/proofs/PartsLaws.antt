-- What holds of parts holds of the pieces that they are split into, and of the sides of one node.
use Rattle.std.proofs.Common.{◌≡◌, ◌≤◌, ◌<◌, ◌^◌, ◌&&◌, ℕ, Bool, true, false, [], ◌∷◌, Option, None, Some, refl, sym, subst, ◌∙◌, arith, add_comm}
use Rattle.sk_base.specs.declared.find.Scheme.{Scheme}
use Rattle.sk_query.specs.Fits.{is_sound, are_sound}
use Rattle.sk_model.specs.Documents.{Document}
use Rattle.sk_model.specs.Scores.{score}
use Rattle.sk_query.specs.declared.form.Form.{Form}
use Rattle.sk_query.specs.Trees as Trees
use Rattle.sk_model.specs.Bounds.{ceil, ceils, ceil_of}
use Rattle.sk_model.specs.Allowance.{leaves_readings}
use Rattle.sk_model.proofs.CombiningLaws.{both-turned}
use Rattle.sk_tree.specs.Opened.{IsPart, part_count, score_of, joint_score_of, is_nest, AreParts}
use Rattle.sk_tree.specs.Parts.{Splits, Halves, IsOfParts, IsOnlyPart, AreSides}
use Rattle.sk_tree.proofs.OpenLaws.{combined-one, halves_scores, halves_ceiling, joined, split_front, split_back, split_front_size, split_back_size, split_scores, split_ceiling, split_readings, split_fits, xor_are, xor_scores, xor_ceiling, xor_fits, or_are, or_scores, or_ceiling, or_fits}
use Rattle.sk_tree.proofs.NestLaws.{split_terms, turned_terms}

-- pieces in the order of the parts
pub splits : (form : Form) (factor : ℕ) (ts fs bs : Trees.Trees) → ts ≡ joined fs bs → AreParts form factor ts → 0 < part_count fs → 0 < part_count bs → factor ≤ 65536 → is_nest form (part_count ts) ≡ true → Splits form factor ts fs bs
splits form factor ts fs bs e are front_some back_some small nest = record {
  front = split_front form factor ts fs bs e are front_some back_some;
  back = split_back form factor ts fs bs e are front_some back_some;
  front_size = split_front_size form factor ts fs bs e are front_some back_some;
  back_size = split_back_size form factor ts fs bs e are front_some back_some;
  scores = split_scores form factor ts fs bs e are front_some back_some nest;
  ceiling = split_ceiling form factor ts fs bs e are front_some back_some;
  fits = split_fits form factor ts fs bs e are front_some back_some small;
  readings = split_readings form factor ts fs bs e are front_some back_some;
  terms = λ lists found. split_terms ts fs bs lists e found;
}

-- of an and the first piece is put behind the other
pub turned_splits : (factor : ℕ) (ts fs bs : Trees.Trees) → ts ≡ joined bs fs → AreParts Form.And factor ts → 0 < part_count fs → 0 < part_count bs → factor ≤ 65536 → Splits Form.And factor ts fs bs
turned_splits factor ts fs bs e are front_some back_some small =
    let straight = splits Form.And factor ts bs fs e are back_some front_some small refl in
    record {
      front = straight.back;
      back = straight.front;
      front_size = straight.back_size;
      back_size = straight.front_size;
      scores = λ scheme o. straight.scores scheme o ∙ both-turned (joint_score_of Form.And bs scheme factor o) (joint_score_of Form.And fs scheme factor o);
      ceiling = λ scheme docs.
          subst (λ (n : ℕ). n ≤ ceil_of Form.And (ceils ts scheme factor docs)) (add_comm (ceil_of Form.And (ceils bs scheme factor docs)) (ceil_of Form.And (ceils fs scheme factor docs))) (straight.ceiling scheme docs);
      fits = λ scheme docs light.
          subst (λ (n : ℕ). n < 2 ^ 127) (add_comm (ceil_of Form.And (ceils bs scheme factor docs)) (ceil_of Form.And (ceils fs scheme factor docs))) (straight.fits scheme docs light);
      readings = λ docs. straight.readings docs ∙ add_comm (leaves_readings bs docs) (leaves_readings fs docs);
      terms = λ lists found. turned_terms ts bs fs lists e found;
    }

-- the parts of an xor that is no nest
pub xor_sides : (form : Form) (factor : ℕ) (ts : Trees.Trees) (n : ℕ) → is_nest form n ≡ false → AreParts form factor ts → factor ≤ 65536 → AreSides form Form.Xor factor ts ts
xor_sides form factor ts n e are small = record {
  parts = xor_are form factor ts n e are;
  size = refl;
  scores = xor_scores form factor ts n e;
  ceiling = xor_ceiling form factor ts n e;
  fits = xor_fits form factor ts n e are small;
  readings = λ docs. refl;
}

-- the parts of an or
pub or_sides : (form : Form) (factor : ℕ) (ts : Trees.Trees) → form ≡ Form.Or → AreParts form factor ts → factor ≤ 65536 → AreSides form Form.Or factor ts ts
or_sides form factor ts e are small = record {
  parts = or_are form factor ts e are;
  size = refl;
  scores = or_scores form factor ts e;
  ceiling = or_ceiling form factor ts e;
  fits = or_fits form factor ts e are small;
  readings = λ docs. refl;
}

-- halves of the sides of one node
pub halves : (factor : ℕ) (ts fs bs : Trees.Trees) → ts ≡ joined fs bs → AreParts Form.Xor factor ts → 0 < part_count fs → 0 < part_count bs → Halves factor ts fs bs
halves factor ts fs bs e are front_some back_some = record {
  front = split_front Form.Xor factor ts fs bs e are front_some back_some;
  back = split_back Form.Xor factor ts fs bs e are front_some back_some;
  front_size = split_front_size Form.Xor factor ts fs bs e are front_some back_some;
  back_size = split_back_size Form.Xor factor ts fs bs e are front_some back_some;
  scores = halves_scores factor ts fs bs e;
  ceiling = halves_ceiling factor ts fs bs e;
  readings = split_readings Form.Xor factor ts fs bs e are front_some back_some;
  terms = λ lists found. split_terms ts fs bs lists e found;
}

-- a query of several parts
pub of_parts : (factor : ℕ) (query : Trees.Tree) (form : Form) (ts : Trees.Trees) → query ≡ Trees.parts form ts → IsPart factor query → IsOfParts factor query form ts
of_parts factor query form ts e is = subst (λ (q : Trees.Tree). IsOfParts factor q form ts) (sym e) (by (subst (λ (q : Trees.Tree). IsPart factor q) e is))
  where
    given : (us : Trees.Trees) → is_sound factor (Trees.parts form us) ≡ true → (0 < part_count us) × (are_sound factor us ≡ true)
    given Trees.no_trees h = cc
    given (Trees.tree u us) h = (omega arith, h)

    by : IsPart factor (Trees.parts form ts) → IsOfParts factor (Trees.parts form ts) form ts
    by is = let are = given ts is.sound in record {
      parts = record { some = are.0; sound = are.1; leaves = is.leaves };
      size = refl;
      scores = λ scheme o. scored o scheme;
      ceiling = λ scheme docs. refl;
      readings = λ docs. refl;
    }
      where
        scored : (o : Option Document) (scheme : Scheme) → score_of (Trees.parts form ts) scheme factor o ≡ joint_score_of form ts scheme factor o
        scored None scheme = refl
        scored (Some d) scheme = refl

-- one part alone
pub only_part : (form : Form) (factor : ℕ) (ts : Trees.Trees) (query : Trees.Tree) → ts ≡ Trees.tree query Trees.no_trees → AreParts form factor ts → IsOnlyPart form factor ts query
only_part form factor ts query e are = subst (λ (us : Trees.Trees). IsOnlyPart form factor us query) (sym e) (by (subst (λ (us : Trees.Trees). AreParts form factor us) e are))
  where
    by : AreParts form factor (Trees.tree query Trees.no_trees) → IsOnlyPart form factor (Trees.tree query Trees.no_trees) query
    by are = record {
      part = record { sound = (and_true are.sound).0; leaves = omega (arith, are.leaves) };
      size = omega arith;
      scores = λ scheme o. scored o scheme;
      ceiling = λ scheme docs. ceil_of-one form (ceil query scheme factor docs);
      readings = λ docs. omega arith;
    }
      where
        and_true : (is_sound factor query && true) ≡ true → (is_sound factor query ≡ true) × Unit {0}
        and_true h = (left (is_sound factor query) h, tt)
          where
            left : (b : Bool) → (b && true) ≡ true → b ≡ true
            left true h = refl
            left false h = cc

        ceil_of-one : (form : Form) (n : ℕ) → ceil_of form (n ∷ []) ≡ n
        ceil_of-one Form.And n = omega arith
        ceil_of-one Form.Or n = omega arith
        ceil_of-one Form.Xor n = omega arith
        ceil_of-one Form.Max n = omega arith
        ceil_of-one Form.AndNot n = omega arith
        ceil_of-one Form.AndMaybe n = omega arith
        ceil_of-one Form.Filter n = omega arith

        scored : (o : Option Document) (scheme : Scheme) → joint_score_of form (Trees.tree query Trees.no_trees) scheme factor o ≡ score_of query scheme factor o
        scored None scheme = refl
        scored (Some d) scheme = combined-one form (score query scheme factor d)
