use Rattle.sk_model.proofs.TermLaws.{terms_rise, has_mentioned, wdf_of_mentions, positions_of_mentions}
use Rattle.sk_model.proofs.documents.terms_of_mentions.Goals as goal

pub returns-clause-rising : goal.returns-clause-rising
returns-clause-rising c = terms_rise

pub returns-clause-all : goal.returns-clause-all
returns-clause-all c = has_mentioned

pub returns-clause-wdf : goal.returns-clause-wdf
returns-clause-wdf c = wdf_of_mentions

pub returns-clause-positions : goal.returns-clause-positions
returns-clause-positions c = positions_of_mentions
