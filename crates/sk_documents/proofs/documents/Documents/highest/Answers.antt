-- Sound documents are live and light.
use Rattle.std.proofs.Common.{All, subst}
use Rattle.sk_base.specs.Loads.{IsLight}
use Rattle.sk_model.specs.Edits.{IsLive}
use Rattle.sk_documents.proofs.SoundLaws.{sound-IsLive, sound-light}
use Rattle.sk_documents.proofs.documents.Documents.highest.Goals as goal

pub returns-clause-sound : goal.returns-clause-sound
returns-clause-sound g c = subst (λ d. IsLive d.live) c.self.view_is (sound-IsLive _ c.self.invariant)

pub returns-clause-light : goal.returns-clause-light
returns-clause-light g c = subst (λ d. All IsLight d.live.documents) c.self.view_is (sound-light _ c.self.invariant)
