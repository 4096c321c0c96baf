use Rattle.mem_table.proofs.tests.operations_alone_are_held.Given as goal

abbrev pub ghosts-walks : goal.ghosts-walks
ghosts-walks g a = record { name = a.blank.name; parts = a.blank.parts }
