use Rattle.lsm_store.proofs.tests.parts_come_and_go.Given as goal

abbrev pub ghosts-shows : goal.ghosts-shows
ghosts-shows g a = record { name = a.blank.name; parts = a.blank.parts }
