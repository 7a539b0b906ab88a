use Rattle.example_index.proofs.main.Given as goal

abbrev pub ghosts-ranked : goal.ghosts-ranked
ghosts-ranked a = record { name = a.blank.name; parts = a.blank.parts }
