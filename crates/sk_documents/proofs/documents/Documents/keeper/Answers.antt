-- Sound documents are light, and fewer than ids.
use Rattle.std.proofs.Common.{All, ◌<◌, ◌^◌, length, subst}
use Rattle.sk_base.specs.Loads.{IsLight}
use Rattle.sk_documents.proofs.SoundLaws.{sound-light, sound-few}
use Rattle.sk_documents.proofs.documents.Documents.keeper.Goals as goal

pub returns-clause-light : goal.returns-clause-light
returns-clause-light g c = subst (λ d. All IsLight d.live.documents) c.self.view_is (sound-light _ c.self.invariant)

pub returns-clause-few : goal.returns-clause-few
returns-clause-few g c = subst (λ d. length d.live.documents < 2 ^ 32) c.self.view_is (sound-few _ c.self.invariant)
