use Rattle.sk_documents.proofs.AllTurnsLaws.{none_joined, none_turns}
use Rattle.sk_documents.proofs.turns.Turns.new.Goals as goal

pub invariant_of-result : goal.invariant_of-result
invariant_of-result g c = none_turns g.K.Keeper.documents c.args.parts.items c.requires.some c.requires.few c.requires.empty

pub returns-clause-empty : goal.returns-clause-empty
returns-clause-empty g c = none_joined g.K.Keeper.documents c.args.parts.items c.requires.empty
