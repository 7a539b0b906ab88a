use Rattle.sk_meaning.proofs.FitLaws.{meant_fits}
use Rattle.sk_meaning.proofs.fitting.meant_fits.Goals as goal

pub returns : goal.returns
returns c = meant_fits
