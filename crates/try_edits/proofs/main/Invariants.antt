use Rattle.try_edits.proofs.main.Given as goal

abbrev pub ghosts-edits_of : goal.ghosts-edits_of
ghosts-edits_of a = record { name = a.blank.name; parts = a.blank.parts }
