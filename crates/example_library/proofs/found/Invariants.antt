use Rattle.example_library.proofs.found.Given as goal

abbrev pub ghosts-find : goal.ghosts-find
ghosts-find a = record { name = a.blank.name; parts = a.blank.parts }
