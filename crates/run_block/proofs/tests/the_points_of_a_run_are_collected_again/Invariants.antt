use Rattle.run_block.proofs.tests.the_points_of_a_run_are_collected_again.Given as goal

abbrev pub ghosts-walks : goal.ghosts-walks
ghosts-walks g a = record { name = a.blank.name; parts = a.blank.parts }
