use Rattle.mvcc_key.proofs.tests.a_counter_is_made.Given as goal

abbrev pub ghosts-counts_one : goal.ghosts-counts_one
ghosts-counts_one g a = record { name = a.blank.name; parts = a.blank.parts }
