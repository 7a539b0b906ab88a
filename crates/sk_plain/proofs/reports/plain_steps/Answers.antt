use Rattle.std.proofs.Common.{length}
use Rattle.sk_model.proofs.SettledLaws.{sharp_allowed, sharp_stop, sharp_rare, sharp_decay, sharp_hits}
use Rattle.sk_plain.specs.Pages.{hits_of}
use Rattle.sk_plain.proofs.reports.plain_steps.Goals as goal

pub returns-clause-hits : goal.returns-clause-hits
returns-clause-hits c query paging docs = sharp_hits paging docs (length (hits_of query paging docs)) query

pub returns-clause-allowed : goal.returns-clause-allowed
returns-clause-allowed c query paging docs = sharp_allowed query paging docs (length (hits_of query paging docs))

pub returns-clause-stop : goal.returns-clause-stop
returns-clause-stop c query paging docs = sharp_stop query paging docs (length (hits_of query paging docs))

pub returns-clause-rare : goal.returns-clause-rare
returns-clause-rare c query paging docs = sharp_rare query paging docs (length (hits_of query paging docs))

pub returns-clause-decay : goal.returns-clause-decay
returns-clause-decay c query paging docs = sharp_decay query paging docs (length (hits_of query paging docs))
