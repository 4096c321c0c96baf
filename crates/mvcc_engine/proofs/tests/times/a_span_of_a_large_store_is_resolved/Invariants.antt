-- The looks are counted in the ledger that the blank opens.
use Rattle.mvcc_engine.proofs.tests.times.a_span_of_a_large_store_is_resolved.Given as goal

abbrev pub ghosts-first_wrong_row : goal.ghosts-first_wrong_row
ghosts-first_wrong_row g a = record { name = a.blank.name; parts = a.blank.parts }
