-- How the parts of a query come to nodes of two sides, and to the sides of one node.
use Rattle.std.specs.Prelude.{◌≡◌, ◌≤◌, ◌<◌, ◌+◌, ◌^◌, ◌++◌, ℕ, true, All, List, length, map, Option, Some}
use Rattle.sk_base.specs.declared.find.Scheme.{Scheme}
use Rattle.sk_base.specs.Loads.{IsLight}
use Rattle.sk_base.specs.Numbers.{Docs}
use Rattle.sk_query.specs.declared.form.Form.{Form}
use Rattle.sk_query.specs.Trees as Query
use Rattle.sk_query.specs.Fits.{are_different}
use Rattle.sk_model.specs.Documents.{Document}
use Rattle.sk_model.specs.Combining.{combined}
use Rattle.sk_model.specs.Bounds.{sum_in, ceil, ceils, ceil_of, lengths_of}
use Rattle.sk_model.specs.Allowance.{leaf_readings, leaves_readings}
use Rattle.sk_model.specs.Sharp.{terms_in}
use Rattle.sk_dict.specs.Terms.{term_at}
use Rattle.sk_index.specs.Indexed.{Indexed}
use Rattle.sk_decay.specs.Sides.{paired, greatest_under}
use Rattle.sk_tree.specs.Nests.{SplitsTerms}
use Rattle.sk_nodes.specs.Proximity.{AreThere}
use Rattle.sk_tree.specs.Opened.{IsPart, wdfs_of, score_of, part_scores, joint_score_of, others_of, query_size, parts_size, AreParts}

-- The parts of a form were split into those that are put together first and the others: a node of two sides gives what the form does.
pub record Splits (form : Form) (factor : ℕ) (whole first others : Query.Trees) : Type 0 where
  pub front : AreParts form factor first
  pub back : AreParts (others_of form) factor others
  pub front_size : parts_size first < parts_size whole
  pub back_size : parts_size others < parts_size whole
  pub scores : (scheme : Scheme) (o : Option Document) → joint_score_of form whole scheme factor o ≡ paired form (joint_score_of form first scheme factor o) (joint_score_of (others_of form) others scheme factor o)
  pub ceiling : (scheme : Scheme) (docs : Docs) → greatest_under form (ceil_of form (ceils first scheme factor docs)) (ceil_of (others_of form) (ceils others scheme factor docs)) ≤ ceil_of form (ceils whole scheme factor docs)
  pub fits : (scheme : Scheme) (docs : Docs) → All IsLight docs → ceil_of form (ceils first scheme factor docs) + ceil_of (others_of form) (ceils others scheme factor docs) < 2 ^ 127
  pub readings : (docs : Docs) → leaves_readings whole docs ≡ leaves_readings first docs + leaves_readings others docs
  pub terms : (lists : List (List ℕ)) → terms_in whole ≡ Some lists → SplitsTerms lists (terms_in first) (terms_in others)

-- The sides of one node were split into halves.
pub record Halves (factor : ℕ) (whole first others : Query.Trees) : Type 0 where
  pub front : AreParts Form.Xor factor first
  pub back : AreParts Form.Xor factor others
  pub front_size : parts_size first < parts_size whole
  pub back_size : parts_size others < parts_size whole
  pub scores : (scheme : Scheme) (o : Option Document) → part_scores whole scheme factor o ≡ part_scores first scheme factor o ++ part_scores others scheme factor o
  pub ceiling : (scheme : Scheme) (docs : Docs) → sum_in (ceils whole scheme factor docs) ≡ sum_in (ceils first scheme factor docs) + sum_in (ceils others scheme factor docs)
  pub readings : (docs : Docs) → leaves_readings whole docs ≡ leaves_readings first docs + leaves_readings others docs
  pub terms : (lists : List (List ℕ)) → terms_in whole ≡ Some lists → SplitsTerms lists (terms_in first) (terms_in others)

-- The numbers of terms that count as one were split into halves.
pub record NumberHalves (i : Indexed) (whole first others : List ℕ) : Type 0 where
  pub front_there : AreThere i first
  pub back_there : AreThere i others
  pub front_apart : are_different (map (term_at i.terms) first) ≡ true
  pub back_apart : are_different (map (term_at i.terms) others) ≡ true
  pub front_shorter : length first < length whole
  pub back_shorter : length others < length whole
  pub wdfs : (o : Option Document) → wdfs_of i whole o ≡ paired Form.Or (wdfs_of i first o) (wdfs_of i others o)
  pub terms : map (term_at i.terms) whole ≡ map (term_at i.terms) first ++ map (term_at i.terms) others
  pub readings : lengths_of (map (term_at i.terms) whole) i.live.documents ≡ lengths_of (map (term_at i.terms) first) i.live.documents + lengths_of (map (term_at i.terms) others) i.live.documents

-- A query of several parts is opened as its parts are, under its factor.
pub record IsOfParts (factor : ℕ) (query : Query.Tree) (form : Form) (ts : Query.Trees) : Type 0 where
  pub parts : AreParts form factor ts
  pub size : query_size query ≡ 1 + parts_size ts
  pub scores : (scheme : Scheme) (o : Option Document) → score_of query scheme factor o ≡ joint_score_of form ts scheme factor o
  pub ceiling : (scheme : Scheme) (docs : Docs) → ceil query scheme factor docs ≡ ceil_of form (ceils ts scheme factor docs)
  pub readings : (docs : Docs) → leaf_readings query docs ≡ leaves_readings ts docs

-- One part alone is opened as its query is.
pub record IsOnlyPart (form : Form) (factor : ℕ) (parts : Query.Trees) (query : Query.Tree) : Type 0 where
  pub part : IsPart factor query
  pub size : query_size query ≡ parts_size parts
  pub scores : (scheme : Scheme) (o : Option Document) → joint_score_of form parts scheme factor o ≡ score_of query scheme factor o
  pub ceiling : (scheme : Scheme) (docs : Docs) → ceil_of form (ceils parts scheme factor docs) ≡ ceil query scheme factor docs
  pub readings : (docs : Docs) → leaves_readings parts docs ≡ leaf_readings query docs

-- The parts of a form are sides of one node, which makes of their scores what the form `joint` does.
pub record AreSides (form joint : Form) (factor : ℕ) (whole sides : Query.Trees) : Type 0 where
  pub parts : AreParts Form.Xor factor sides
  pub size : parts_size sides ≡ parts_size whole
  pub scores : (scheme : Scheme) (o : Option Document) → joint_score_of form whole scheme factor o ≡ combined joint (part_scores sides scheme factor o)
  pub ceiling : (scheme : Scheme) (docs : Docs) → ceil_of form (ceils whole scheme factor docs) ≡ sum_in (ceils sides scheme factor docs)
  pub fits : (scheme : Scheme) (docs : Docs) → All IsLight docs → sum_in (ceils sides scheme factor docs) < 2 ^ 127
  pub readings : (docs : Docs) → leaves_readings whole docs ≡ leaves_readings sides docs
