use Rattle.sk_model.proofs.SettledLaws.{least, enough, below}
use Rattle.sk_model.proofs.settled.settled_is_least.Goals as goal

pub returns-clause-least : goal.returns-clause-least
returns-clause-least c = least

pub returns-clause-seen : goal.returns-clause-seen
returns-clause-seen c paging ranks weight rising early light = (enough paging ranks weight rising early light).0

pub returns-clause-heavy : goal.returns-clause-heavy
returns-clause-heavy c paging ranks weight rising early light = (enough paging ranks weight rising early light).1

pub returns-clause-below : goal.returns-clause-below
returns-clause-below c = below
