use Rattle.mvcc_key.proofs.cursor.seek_ge.Given as goal

abbrev pub ghosts-seek_ge_from : goal.ghosts-seek_ge_from
ghosts-seek_ge_from g a = record { name = a.blank.name; parts = a.blank.parts }
