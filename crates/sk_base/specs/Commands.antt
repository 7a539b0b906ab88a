-- Commands: which questions keep their bounds, and the same over another type of trees.
use Rattle.std.specs.Prelude.{◌≤◌, ℕ, length}
use Rattle.sk_base.specs.declared.command.Command.{Command}
use Rattle.sk_base.specs.declared.command.FlightCommand.{FlightCommand}
use Rattle.sk_base.specs.declared.command.Question.{Question}
use Rattle.sk_base.specs.declared.facets.FacetQuery.{FacetQuery}
use Rattle.sk_base.specs.Records.{most_bytes}
use Rattle.sk_base.specs.Finds.{FitsFind, find_over}

-- Documents stand in 1 to 16 parts.
pub record FitsParts (parts : ℕ) : Type 0 where
  pub some : 1 ≤ parts
  pub few : parts ≤ 16

-- A query text is not too long, and no more than 100,000 values are told.
pub record FitsFacets (facets : FacetQuery) : Type 0 where
  pub text : length facets.text ≤ most_bytes
  pub size : facets.size ≤ 100000

-- What is asked keeps its bounds.
abbrev pub FitsQuestion : {T : Type 0} → Question T → Type 0
FitsQuestion (Question.Find find) = FitsFind find
FitsQuestion (Question.Show text join) = length text ≤ most_bytes
FitsQuestion (Question.Facets facets) = FitsFacets facets

-- A line asks for 1 to 100,000 turns.
pub record FitsTurns (times : ℕ) : Type 0 where
  pub some : 1 ≤ times
  pub few : times ≤ 100000

-- What is asked of searches in flight keeps its bounds.
abbrev pub FitsFlight : {T : Type 0} → FlightCommand T → Type 0
FitsFlight (FlightCommand.Open find) = FitsFind find
FitsFlight (FlightCommand.Turn number times) = FitsTurns times
FitsFlight (FlightCommand.Close number) = Unit {0}
FitsFlight (FlightCommand.Drop number) = Unit {0}

-- A question, its tree changed.
abbrev pub question_over : {A B : Type 0} → (A → B) → Question A → Question B
question_over f (Question.Find find) = Question.Find (find_over f find)
question_over f (Question.Show text join) = Question.Show text join
question_over f (Question.Facets facets) = Question.Facets facets

-- What is asked of searches in flight, its tree changed.
abbrev pub flight_over : {A B : Type 0} → (A → B) → FlightCommand A → FlightCommand B
flight_over f (FlightCommand.Open find) = FlightCommand.Open (find_over f find)
flight_over f (FlightCommand.Turn number times) = FlightCommand.Turn number times
flight_over f (FlightCommand.Close number) = FlightCommand.Close number
flight_over f (FlightCommand.Drop number) = FlightCommand.Drop number

-- A command, its tree changed.
abbrev pub command_over : {A B : Type 0} → (A → B) → Command A → Command B
command_over f (Command.Schema schema parts) = Command.Schema schema parts
command_over f (Command.Edit edit) = Command.Edit edit
command_over f (Command.Ask question) = Command.Ask (question_over f question)
command_over f (Command.Flight command) = Command.Flight (flight_over f command)
