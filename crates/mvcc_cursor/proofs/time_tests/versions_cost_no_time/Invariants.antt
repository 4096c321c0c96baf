use Rattle.mvcc_cursor.proofs.time_tests.versions_cost_no_time.Given as goal

abbrev pub ghosts-least_times : goal.ghosts-least_times
ghosts-least_times g a = record { name = a.blank.name; parts = a.blank.parts }
