-- Sides that are opened one behind the other.
use Rattle.std.proofs.Common.{◌≡◌, ◌+◌, ℕ, List, ◌++◌, Option, sym, subst, ◌∙◌, arith}
use Rattle.sk_index.specs.Indexed.{Indexed}
use Rattle.sk_nodes.specs.Shapes.{Sides}
use Rattle.sk_tree.specs.Opened.{OpensSides}
use Rattle.sk_model.specs.Documents.{Document}
use Rattle.sk_model.specs.Edits.{document_at}
use Rattle.sk_nodes.specs.Many.{followed_by}
use Rattle.sk_nodes.proofs.ManyLaws.{greatest_behind, sound_behind, rests_behind}

-- ---- more sides

pub opens_behind : (i : Indexed) (ss rs us : Sides) (f g h : Option Document → List (Option ℕ)) (m n most : ℕ) → us ≡ followed_by ss rs
    → ((o : Option Document) → h o ≡ f o ++ g o) → most ≡ m + n → OpensSides i ss f m → OpensSides i rs g n → OpensSides i us h most
opens_behind i ss rs us f g h m n most e scores sum some others = subst (λ (vs : Sides). OpensSides i vs h most) (sym e) (record {
  sound = sound_behind i ss rs some.sound others.sound;
  gives = λ id. rests_behind i ss rs id ∙ (λ j. some.gives id j ++ others.gives id j) ∙ sym (scores (document_at id i.live.documents));
  ceiling = omega (arith, greatest_behind ss rs, some.ceiling, others.ceiling, sum);
})
