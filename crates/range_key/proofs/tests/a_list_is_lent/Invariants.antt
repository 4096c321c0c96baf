use Rattle.range_key.proofs.tests.a_list_is_lent.Given as goal

abbrev pub ghosts-is_lent_at : goal.ghosts-is_lent_at
ghosts-is_lent_at g a = record { name = a.blank.name; parts = a.blank.parts }
