-- The looks are counted in the ledger that the blank opens.
use Rattle.mvcc_engine.proofs.reading.get.Given as goal

abbrev pub ghosts-get_from : goal.ghosts-get_from
ghosts-get_from a = record { name = a.blank.name; parts = a.blank.parts }
