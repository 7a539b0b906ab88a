use Rattle.sk_stem.specs.Letters.{marks}
use Rattle.sk_stem.proofs.LetterLemmas.{ends_cvc_from-start}
use Rattle.sk_stem.proofs.letters.ends_cvc.Goals as goal

pub letters-init : goal.letters-init
letters-init c = ends_cvc_from-start (marks c.args.word.now)
