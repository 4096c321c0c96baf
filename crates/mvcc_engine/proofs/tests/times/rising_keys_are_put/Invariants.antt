-- The looks are counted in the ledger that the blank opens.
use Rattle.mvcc_engine.proofs.tests.times.rising_keys_are_put.Given as goal

abbrev pub ghosts-filled : goal.ghosts-filled
ghosts-filled g a = record { name = a.blank.name; parts = a.blank.parts }
