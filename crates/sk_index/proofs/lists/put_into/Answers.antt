-- All lists have the document, which is packed under the terms with its own.
use Rattle.sk_sorted.specs.Runs.{flat}
use Rattle.std.proofs.Common.{◌≡◌, subst, ◌∙◌}
use Rattle.sk_slots.specs.Slotted.{SetsAll, values_at}
use Rattle.sk_terms.specs.Listed.{PutsAll}
use Rattle.sk_index.specs.Unpacked.{unpacked, unpacked_all}
use Rattle.sk_index.proofs.StandsLemmas.{nowhere_from}
use Rattle.sk_index.proofs.UnpackedLemmas.{AreWhole-put, documents-put}
use Rattle.sk_index.proofs.lists.put_into.Goals as goal

pub returns-clause-whole : goal.returns-clause-whole
returns-clause-whole c =
    let doc = c.args.doc in
    let p = c.in_ok-packed.packed in
    let values : values_at c.args.id c.set_all.new.self ≡ doc.values
    = c.in_ok-set_all.ensures.values (nowhere_from c.args.id (unpacked_all c.args.terms.now.terms c.args.slots.now c.args.payloads.now (flat c.args.map.now)) c.args.slots.now c.requires.whole.stand.values c.requires.free) ∙ c.into_vec.ensures.value in
    let same : unpacked c.put_all.new.self.terms c.set_all.new.self c.set.new.self c.args.id p ≡ doc
    = λ i. record { terms = (c.in_ok-packed.ensures.named ∙ c.as_slice.ensures.value) i; values = values i; payload = c.in_ok-set.ensures.value i } in
    AreWhole-put c.args.all.now c.insert.new.self c.args.terms.now c.put_all.new.self c.args.slots.now c.set_all.new.self c.args.payloads.now c.set.new.self (flat c.args.map.now) (flat c.put.new.self) c.args.id doc p c.requires.whole
    c.in_ok-put.ensures.ok c.in_ok-packed.ensures.grows c.in_ok-packed.ensures.known c.in_ok-set_all.ensures.others c.in_ok-set.ensures.others same c.requires.free c.requires.id c.as_slice.ensures.rising c.in_ok-insert.ensures.ok
    (subst (λ w. PutsAll c.args.id w c.args.terms.now c.put_all.new.self) c.as_slice.ensures.value c.in_ok-packed.ensures.puts)
    (subst (λ w. SetsAll c.args.id w c.args.slots.now c.set_all.new.self) c.into_vec.ensures.value c.in_ok-set_all.ensures.sets)

pub returns-clause-documents : goal.returns-clause-documents
returns-clause-documents c =
    let doc = c.args.doc in
    let p = c.in_ok-packed.packed in
    let values : values_at c.args.id c.set_all.new.self ≡ doc.values
    = c.in_ok-set_all.ensures.values (nowhere_from c.args.id (unpacked_all c.args.terms.now.terms c.args.slots.now c.args.payloads.now (flat c.args.map.now)) c.args.slots.now c.requires.whole.stand.values c.requires.free) ∙ c.into_vec.ensures.value in
    let same : unpacked c.put_all.new.self.terms c.set_all.new.self c.set.new.self c.args.id p ≡ doc
    = λ i. record { terms = (c.in_ok-packed.ensures.named ∙ c.as_slice.ensures.value) i; values = values i; payload = c.in_ok-set.ensures.value i } in
    documents-put c.args.all.now c.insert.new.self c.args.terms.now c.put_all.new.self c.args.slots.now c.set_all.new.self c.args.payloads.now c.set.new.self (flat c.args.map.now) (flat c.put.new.self) c.args.id doc p
    c.requires.whole c.in_ok-put.ensures.ok c.in_ok-packed.ensures.grows c.in_ok-packed.ensures.known c.in_ok-set_all.ensures.others c.in_ok-set.ensures.others same c.requires.free
