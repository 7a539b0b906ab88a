-- The document that is found is in order, and its numbers have terms.
use Rattle.sk_sorted.specs.Runs.{flat}
use Rattle.std.proofs.Common.{List, length, option_map, sym, ap, ◌∙◌}
use Rattle.sk_base.specs.Documents.{AreTerms}
use Rattle.sk_sorted.specs.Entries.{found}
use Rattle.sk_packed.specs.Packed.{NumberedTerm, AreKnown}
use Rattle.sk_terms.specs.Named.{named_all}
use Rattle.sk_index.specs.Unpacked.{unpacked}
use Rattle.sk_index.proofs.UnpackedLemmas.{mapped_twice, some_of, unpacked-found, found-known, found-ordered}
use Rattle.sk_index.proofs.lists.Lists.packed.Goals as goal

pub returns-clause-value : goal.returns-clause-value
returns-clause-value c =
    let dict = c.self.inside.terms.terms in
    let slots = c.self.inside.slots in
    let payloads = c.self.inside.payloads in
    let entries = flat c.self.inside.map in
    rw (← c.self.view_is) (mapped_twice (λ p. p.now) (unpacked dict slots payloads c.args.id) c.get.result ∙ ap (option_map (unpacked dict slots payloads c.args.id)) c.get.ensures ∙ sym (unpacked-found dict slots payloads c.args.id entries))

pub returns-clause-rising : goal.returns-clause-rising
returns-clause-rising c =
    let dict = c.self.inside.terms.terms in
    let entries = flat c.self.inside.map in
    rw (← c.self.view_is) (some_of (λ p. p.now) (λ (p : List NumberedTerm). AreTerms (named_all dict p)) c.get.result (found c.args.id entries) c.get.ensures (λ p. found-ordered dict c.self.inside.slots c.self.inside.payloads c.args.id p entries c.self.invariant.0.ordered))

pub returns-clause-known : goal.returns-clause-known
returns-clause-known c =
    let dict = c.self.inside.terms.terms in
    let entries = flat c.self.inside.map in
    rw (← c.self.view_is) (some_of (λ p. p.now) (λ (p : List NumberedTerm). AreKnown (length dict) p) c.get.result (found c.args.id entries) c.get.ensures (λ p. found-known dict c.self.inside.slots c.self.inside.payloads c.args.id p entries c.self.invariant.0.known))
