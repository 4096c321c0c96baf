use Rattle.mem_table.proofs.tests.keys_are_found.Given as goal

abbrev pub ghosts-finds : goal.ghosts-finds
ghosts-finds g a = record { name = a.blank.name; parts = a.blank.parts }
