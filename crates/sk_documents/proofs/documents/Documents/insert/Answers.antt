-- The keeper has the document.
use Rattle.std.proofs.Common.{arith}
use Rattle.sk_documents.proofs.SoundLaws.{AreSound-put}
use Rattle.sk_documents.proofs.documents.Documents.insert.Goals as goal

pub invariant_of-result : goal.invariant_of-result
invariant_of-result g c =
    let docs = g.K.Keeper.documents c.self.inside.keeper in
    rw (c.in_ok-keeper.ensures.documents, c.max.ensures)
    (AreSound-put docs c.self.inside.highest c.args.id c.args.doc c.requires.id (omega (arith, c.ranges.id.fits)) c.as_slice-terms.ensures.rising (c.requires.light c.args.id) c.self.invariant)
