-- The half that is left out is before the term, or behind it.
use Rattle.std.proofs.Common.{◌≡◌, ◌+◌, ◌-◌, ◌/◌, length, sym, ap, ◌∙◌, arith}
use Rattle.std.specs.Ordering.{is_lt}
use Rattle.std.proofs.lemmas.List.{length-map}
use Rattle.sk_base.specs.declared.doc_entry.DocTerm.{DocTerm}
use Rattle.sk_dict.specs.Terms.{term_at, term_cmp}
use Rattle.sk_packed.specs.Packed.{numbered_at}
use Rattle.sk_terms.specs.Named.{with_its_text, named_all}
use Rattle.sk_terms.proofs.NamedLemmas.{named_at}
use Rattle.sk_index.proofs.PlaceLemmas.{halved_low, halved_high}
use Rattle.sk_index.proofs.places.place_of.Goals as goal

pub halves-preserved-then-is_before : goal.halves-preserved-then-is_before
halves-preserved-then-is_before c =
    let dict = c.args.lists.now.terms in
    let packed = c.args.packed.now in
    let middle = c.halves.low + (c.halves.high - c.halves.low) / 2 in
    let e : DocTerm = with_its_text dict (numbered_at packed middle) in
    let text : c.term.result.now ≡ e.term = c.term.ensures.value ∙ ap (term_at dict) c.number.ensures in
    let size : length (named_all dict packed) ≡ length packed = length-map packed (with_its_text dict) in
    halved_low c.args.term.now (named_all dict packed) c.requires.rising c.halves.low middle c.halves.high e (named_at dict packed middle e (omega (arith, c.halves.invariant.within, size))) c.halves.invariant (omega arith)
    (ap (λ w. is_lt (term_cmp w c.args.term.now)) (sym text) ∙ sym c.is_before.ensures ∙ c.if-is_before.true)

pub halves-preserved : goal.halves-preserved
halves-preserved c =
    let dict = c.args.lists.now.terms in
    let packed = c.args.packed.now in
    let middle = c.halves.low + (c.halves.high - c.halves.low) / 2 in
    let e : DocTerm = with_its_text dict (numbered_at packed middle) in
    let text : c.term.result.now ≡ e.term = c.term.ensures.value ∙ ap (term_at dict) c.number.ensures in
    let size : length (named_all dict packed) ≡ length packed = length-map packed (with_its_text dict) in
    halved_high c.args.term.now (named_all dict packed) c.requires.rising c.halves.low middle c.halves.high e (named_at dict packed middle e (omega (arith, c.halves.invariant.within, size))) c.halves.invariant (omega arith) (omega arith)
    (ap (λ w. is_lt (term_cmp w c.args.term.now)) (sym text) ∙ sym c.is_before.ensures ∙ c.if-is_before.false)
