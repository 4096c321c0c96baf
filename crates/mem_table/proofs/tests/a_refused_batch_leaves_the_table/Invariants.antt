use Rattle.mem_table.proofs.tests.a_refused_batch_leaves_the_table.Given as goal

abbrev pub ghosts-walks : goal.ghosts-walks
ghosts-walks g a = record { name = a.blank.name; parts = a.blank.parts }
