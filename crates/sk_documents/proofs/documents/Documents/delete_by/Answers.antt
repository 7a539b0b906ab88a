-- As many documents were removed as have the term.
use Rattle.std.proofs.Common.{◌≡◌, length, ap, arith}
use Rattle.sk_base.specs.declared.record.Reply.TheVariants as Reply
use Rattle.sk_base.specs.Numbers.{length_of}
use Rattle.sk_documents.proofs.RemovingLemmas.{length-ids_with}
use Rattle.sk_documents.proofs.documents.Documents.delete_by.Goals as goal

pub returns-clause-reply : goal.returns-clause-reply
returns-clause-reply g c =
    let count : c.len.result ≡ length_of c.args.term.now c.args.self.live.documents = omega (arith, ap length c.in_ok-ids.ensures.ids, length-ids_with c.args.term.now c.args.self.live.documents, c.len.ensures, c.in_ok-ids.ids.ok.0) in
    ap Reply.Done count
