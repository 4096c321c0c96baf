use Rattle.mem_table.proofs.tests.many_names_stand_in_order.Given as goal

abbrev pub ghosts-passes : goal.ghosts-passes
ghosts-passes g a = record { name = a.blank.name; parts = a.blank.parts }

abbrev pub ghosts-seeks : goal.ghosts-seeks
ghosts-seeks g a = record { name = a.blank.name; parts = a.blank.parts }
