use Rattle.mvcc_cursor.proofs.tests.an_empty_store_tells_nothing.Given as goal

abbrev pub ghosts-tells_nothing : goal.ghosts-tells_nothing
ghosts-tells_nothing g a = record { name = a.blank.name; parts = a.blank.parts }
