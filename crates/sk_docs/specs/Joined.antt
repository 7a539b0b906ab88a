-- How the mentions of a record are joined to terms.
use Rattle.std.specs.Prelude.{◌≡◌, ◌<◌, ◌+◌, ◌^◌, List, All, AllPairs}
use Rattle.std.specs.Ordering.{nat_cmp}
use Rattle.std.specs.Cmp.Lexicographic.{slice_cmp}
use Rattle.std.specs.declared.cmp.Ordering.TheVariants.{Less}
use Rattle.sk_base.specs.declared.doc_entry.DocTerm.{DocTerm}
use Rattle.sk_base.specs.Documents.{AreTerms}
use Rattle.sk_base.specs.Loads.{AreLight, load_of}

-- Each place of the second lies behind all places of the first.
abbrev pub LieBefore : DocTerm → DocTerm → Type 0
LieBefore a b = All (λ q. All (λ p. p < q) a.positions) b.positions

-- The term of the second does not stand before that of the first, and where they are one, the places of the first lie before those of the second.
pub record Follows (a b : DocTerm) : Type 0 where
  pub order : slice_cmp nat_cmp b.term a.term ≡ Less → ⊥
  pub places : a.term ≡ b.term → LieBefore a b

-- The places rise along the mentions, and their wdfs are not too great in all.
pub record AreMentions (mentions : List DocTerm) : Type 0 where
  pub rise : AllPairs LieBefore mentions
  pub light : AreLight mentions

-- The terms stand in order, the mention follows all of them, and its wdf can be added to each.
pub record CanJoin (terms : List DocTerm) (mention : DocTerm) : Type 0 where
  pub rising : AreTerms terms
  pub follows : All (λ one. Follows one mention) terms
  pub light : load_of terms + mention.wdf < 2 ^ 29
