use Rattle.mem_table.proofs.tests.a_refused_split_leaves_the_table.Given as goal

abbrev pub ghosts-passes : goal.ghosts-passes
ghosts-passes g a = record { name = a.blank.name; parts = a.blank.parts }
