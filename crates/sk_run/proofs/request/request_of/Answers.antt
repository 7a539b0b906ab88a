use Rattle.std.specs.Option.{option_copied}
use Rattle.sk_run.proofs.MachineLemmas.{long_request}
use Rattle.sk_run.proofs.request.request_of.Goals as goal

pub returns-in-TooLong-clause-asks : goal.returns-in-TooLong-clause-asks
returns-in-TooLong-clause-asks c = rw c.in-TooLong.is (λ text long. long_request c.args.reading (option_copied c.args.schema) text long)
