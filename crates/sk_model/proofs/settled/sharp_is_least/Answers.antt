use Rattle.sk_model.proofs.SettledLaws.{sharp_allowed, sharp_stop, sharp_rare, sharp_decay}
use Rattle.sk_model.proofs.settled.sharp_is_least.Goals as goal

pub returns-clause-allowed : goal.returns-clause-allowed
returns-clause-allowed c = sharp_allowed

pub returns-clause-stop : goal.returns-clause-stop
returns-clause-stop c = sharp_stop

pub returns-clause-rare : goal.returns-clause-rare
returns-clause-rare c = sharp_rare

pub returns-clause-decay : goal.returns-clause-decay
returns-clause-decay c = sharp_decay
