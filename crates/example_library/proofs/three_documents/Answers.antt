use Rattle.std.proofs.Common.{IfOk}
use Rattle.std.proofs.lemmas.Result.{IfOk-weaker}
use Rattle.sk_run.specs.Held.{nothing_held}
use Rattle.sk_engine.specs.Sessions.{SessionHolds}
use Rattle.example_library.specs.Example.{one, two, three}
use Rattle.example_library.proofs.three_documents.Goals as goal

pub returns-clause-holds : goal.returns-clause-holds
returns-clause-holds c =
    IfOk-weaker c.add-3.result _ (λ session. SessionHolds session three)
    (λ session h. h two (c.in_ok-session-3.ensures.holds one (c.in_ok-session-2.ensures.holds (nothing_held 1) c.in_ok-session.ensures.holds)))
    c.add-3.ensures.holds
