use Rattle.mvcc_cursor.proofs.tests.a_filled_store_is_told.Given as goal

abbrev pub ghosts-first_failure : goal.ghosts-first_failure
ghosts-first_failure g a = record { name = a.blank.name; parts = a.blank.parts }
