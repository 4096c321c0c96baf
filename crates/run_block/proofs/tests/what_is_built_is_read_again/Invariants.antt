use Rattle.run_block.proofs.tests.what_is_built_is_read_again.Given as goal

abbrev pub ghosts-walks : goal.ghosts-walks
ghosts-walks g a = record { name = a.blank.name; parts = a.blank.parts }
