use Rattle.mvcc_put.proofs.tests.refusals_over_an_empty_store.Given as goal

abbrev pub ghosts-comes_to : goal.ghosts-comes_to
ghosts-comes_to g a = record { name = a.blank.name; parts = a.blank.parts }
