use Rattle.std.proofs.Common.{◌<◌, All, [], subst}
use Rattle.std.proofs.lemmas.List.Elements.{All-head}
use Rattle.std.specs.Option.{option_to_list}
use Rattle.sk_docs.proofs.mention.put.Goals as goal

pub push-requires : goal.push-requires
push-requires c =
    let all = subst (λ o. All (λ q. All (λ p. p < q) c.args.positions.now) (option_to_list o)) c.in-Some.is c.requires.behind in
    record { behind = All-head (λ q. All (λ p. p < q) c.args.positions.now) c.in-Some.place [] all }
