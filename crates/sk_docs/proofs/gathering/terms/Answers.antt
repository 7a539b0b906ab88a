use Rattle.std.proofs.Common.{◌≡◌, subst, sym, ap, arith, ◌<◌, ◌^◌}
use Rattle.std.proofs.lemmas.Result.{IfOk-weaker}
use Rattle.sk_base.specs.Loads.{load_of}
use Rattle.sk_model.specs.Documents.{terms_of}
use Rattle.sk_docs.specs.Joined.{AreMentions}
use Rattle.sk_docs.proofs.GatherLemmas.{filters_join}
use Rattle.sk_docs.proofs.TermLemmas.{load-terms_of}
use Rattle.sk_docs.proofs.gathering.terms.Goals as goal

pub into_terms-requires : goal.into_terms-requires
into_terms-requires c =
    record { all = subst AreMentions (sym c.in_ok-note_filters.ensures) (filters_join c.note_texts.new.gathered.mentions c.fields-fields.result.now c.args.values.now c.in_ok-note_texts.ensures.all) }

pub returns-clause-light : goal.returns-clause-light
returns-clause-light c =
    let all = filters_join c.note_texts.new.gathered.mentions c.fields-fields.result.now c.args.values.now c.in_ok-note_texts.ensures.all in
    IfOk-weaker c.into_terms.result (λ terms. terms ≡ terms_of c.note_filters.new.gathered.mentions) (λ terms. load_of terms < 2 ^ 29)
    (λ terms is. omega (arith, ap load_of is, load-terms_of c.note_filters.new.gathered.mentions, ap load_of c.in_ok-note_filters.ensures, all.light)) c.into_terms.ensures
