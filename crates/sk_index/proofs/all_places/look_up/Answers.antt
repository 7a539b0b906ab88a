-- One place more was written.
use Rattle.std.proofs.Common.{ℕ, arith}
use Rattle.sk_base.specs.Documents.{positions_of}
use Rattle.sk_dict.specs.Terms.{term_at}
use Rattle.sk_packed.specs.Packed.{positions_at_place}
use Rattle.sk_terms.specs.Named.{named_all}
use Rattle.sk_index.specs.declared.places.TermPlace.{TermPlace}
use Rattle.sk_index.proofs.PlaceLemmas.{looked_up}
use Rattle.sk_index.proofs.all_places.look_up.Goals as goal

pub terms-preserved : goal.terms-preserved
terms-preserved c =
    let dict = c.args.lists.now.terms in
    let packed = c.args.packed.now in
    looked_up (λ (place : TermPlace). positions_at_place packed place.at) (λ (n : ℕ). positions_of (term_at dict n) (named_all dict packed)) c.terms.places c.args.numbers.now c.terms.i c.place_in.result 0 (omega arith) (omega arith)
    c.place_in.ensures c.terms.invariant
