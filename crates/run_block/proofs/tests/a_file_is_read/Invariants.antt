use Rattle.run_block.proofs.tests.a_file_is_read.Given as goal

abbrev pub ghosts-walks : goal.ghosts-walks
ghosts-walks g a = record { name = a.blank.name; parts = a.blank.parts }
