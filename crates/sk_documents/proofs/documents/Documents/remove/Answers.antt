-- The keeper let the document go.
use Rattle.sk_sorted.proofs.EntryLaws.{put-without, found-without}
use Rattle.sk_documents.proofs.SoundLaws.{AreSound-without}
use Rattle.sk_documents.proofs.documents.Documents.remove.Goals as goal

pub invariant_of-self : goal.invariant_of-self
invariant_of-self g c =
    rw c.remove.ensures.left (AreSound-without (g.K.Keeper.documents c.self.inside.keeper) c.self.inside.highest c.args.id c.self.invariant)

pub returns-clause-put_again : goal.returns-clause-put_again
returns-clause-put_again g c = λ document. rw (← c.self.view_is, c.remove.ensures.left) (put-without 0 c.args.id document (g.K.Keeper.documents c.self.inside.keeper) c.self.invariant.rise)

pub returns-clause-free : goal.returns-clause-free
returns-clause-free g c = rw c.remove.ensures.left (found-without 0 c.args.id (g.K.Keeper.documents c.self.inside.keeper) c.self.invariant.rise)
