use Rattle.mem_table.proofs.tests.range_operations_stay_in_order.Given as goal

abbrev pub ghosts-walks : goal.ghosts-walks
ghosts-walks g a = record { name = a.blank.name; parts = a.blank.parts }
