-- What stands at the place is the term, or none is.
use Rattle.std.proofs.Common.{◌≡◌, length, sym, ◌∙◌, arith}
use Rattle.std.proofs.lemmas.List.{length-map}
use Rattle.sk_base.specs.declared.doc_entry.DocTerm.{DocTerm}
use Rattle.sk_packed.specs.Packed.{numbered_at}
use Rattle.sk_terms.specs.Named.{with_its_text, named_all}
use Rattle.sk_terms.proofs.NamedLemmas.{named_at}
use Rattle.sk_index.proofs.PlaceLemmas.{positions_found, positions_past, positions-past}
use Rattle.sk_index.proofs.places.place_by_text.Goals as goal

pub returns-then-place-len-clause-value : goal.returns-then-place-len-clause-value
returns-then-place-len-clause-value c =
    let dict = c.args.lists.now.terms in
    let packed = c.args.packed.now in
    let place = c.place_of-place.result in
    let e : DocTerm = with_its_text dict (numbered_at packed place) in
    let size : length (named_all dict packed) ≡ length packed = length-map packed (with_its_text dict) in
    c.place_if.ensures.value
    ∙ sym (positions_found c.args.term.now (named_all dict packed) place e (named_at dict packed place e (omega arith)) c.requires.rising c.place_of-place.ensures (omega (arith, size)))

pub returns-else-place-len-clause-value : goal.returns-else-place-len-clause-value
returns-else-place-len-clause-value c =
    let dict = c.args.lists.now.terms in
    let packed = c.args.packed.now in
    let size : length (named_all dict packed) ≡ length packed = length-map packed (with_its_text dict) in
    positions-past packed c.place_of-place.result (omega arith)
    ∙ sym (positions_past c.args.term.now (named_all dict packed) c.place_of-place.result c.place_of-place.ensures (omega (arith, size)))
