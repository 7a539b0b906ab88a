-- The ledger is the blank's own.
use Rattle.try_libraries.proofs.steps.a_counter_is_made_and_passed_on.Given as goal

abbrev pub ghosts-counted : goal.ghosts-counted
ghosts-counted g a = record { name = a.blank.name; parts = a.blank.parts }
