use Rattle.sk_model.proofs.WeightLaws.{ceil_fits, score_fits, ceil_small}
use Rattle.sk_model.proofs.bounds.weights_fit.Goals as goal

pub returns-clause-ceil : goal.returns-clause-ceil
returns-clause-ceil c query scheme factor docs sound small light = ceil_fits scheme docs light query factor sound small

pub returns-clause-score : goal.returns-clause-score
returns-clause-score c query scheme factor one sound small light = score_fits scheme one.1 light query factor sound small

pub returns-clause-small : goal.returns-clause-small
returns-clause-small c query scheme factor docs sound small light few = ceil_small scheme docs light query factor sound small few
