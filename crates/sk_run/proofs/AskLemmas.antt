-- What a question is answered, by what a store told of it.
use Rattle.std.proofs.Common.{◌≡◌, Result, Ok, Err, sym, subst}
use Rattle.sk_query.specs.Trees.{Tree}
use Rattle.sk_parser.specs.declared.asked.AskError.{AskError}
use Rattle.sk_parser.specs.Asked.{ReadsAs}
use Rattle.sk_run.specs.declared.response.Response.{Response}
use Rattle.sk_run.specs.Asking.{TellsOfQuestion, RefusedFor, AnswersAsk, RespondsWith}

-- Where no query was read, the refusal with its cause is what is answered.
pub refused_for : (Answers : Tree → Response → Type 0) (asked : Result Tree AskError) (why : AskError) (answer : Response) → ReadsAs asked (Err why) → RefusedFor why answer → AnswersAsk Answers asked answer
refused_for Answers asked (AskError.BadQuery kind place) answer is so = subst (λ (a : Result Tree AskError). AnswersAsk Answers a answer) (sym is) so
refused_for Answers asked AskError.BadTree answer is so = subst (λ (a : Result Tree AskError). AnswersAsk Answers a answer) (sym is) so
refused_for Answers asked AskError.NoMemory answer is so = absurd so

-- What was told is answered, whatever it is.
module _ {A : Type 0} (Allows : Tree → A → Type 0) (response : A → Response) (asked : Result Tree AskError) where
  pub told : (it : A) (answer : Response) → TellsOfQuestion Allows asked (Ok it) → answer ≡ response it → AnswersAsk (λ query. RespondsWith (Allows query) response) asked answer
  told it answer tells is = subst (λ (a : Result Tree AskError). AnswersAsk (λ query. RespondsWith (Allows query) response) a answer) (sym tells.1) (it, tells.2, is)

  pub not_told : (why : AskError) (answer : Response) → TellsOfQuestion Allows asked (Err why) → RefusedFor why answer → AnswersAsk (λ query. RespondsWith (Allows query) response) asked answer
  not_told (AskError.BadQuery kind place) answer tells so = refused_for (λ query. RespondsWith (Allows query) response) asked (AskError.BadQuery kind place) answer tells so
  not_told AskError.BadTree answer tells so = refused_for (λ query. RespondsWith (Allows query) response) asked AskError.BadTree answer tells so
  not_told AskError.NoMemory answer tells so = absurd so
