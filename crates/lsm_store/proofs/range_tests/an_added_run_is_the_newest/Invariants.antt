use Rattle.lsm_store.proofs.range_tests.an_added_run_is_the_newest.Given as goal

abbrev pub ghosts-shows : goal.ghosts-shows
ghosts-shows g a = record { name = a.blank.name; parts = a.blank.parts }
