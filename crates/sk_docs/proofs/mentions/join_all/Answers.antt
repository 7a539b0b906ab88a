use Rattle.std.proofs.Common.{subst, sym, ap, ◌∙◌, ◌++◌}
use Rattle.sk_base.specs.Documents.{AreTerms}
use Rattle.sk_model.proofs.TermLaws.{terms_rise}
use Rattle.sk_docs.specs.Joined.{CanJoin}
use Rattle.sk_docs.proofs.JoinLemmas.{can_join}
use Rattle.sk_docs.proofs.mentions.join_all.Goals as goal

pub join-requires : goal.join-requires
join-requires c =
    let whole = ap (λ rest. c.mentions.yielded ++ rest) (sym c.in-Some.ensures.steps.0) ∙ c.mentions.invariant.1 ∙ c.into_iter-mention-iterator.ensures.into_iter_gives.0 in
    record {
      can = subst (λ terms. CanJoin terms c.in-Some.mention) (sym c.mentions.invariant.0)
          (can_join c.mentions.yielded c.in-Some.mention _ c.args.mentions.items whole c.requires.follow c.requires.light);
    }

pub from_vec-requires : goal.from_vec-requires
from_vec-requires c = record { rising = subst AreTerms (sym c.mentions.invariant.0) (terms_rise c.mentions.yielded) }
