use Rattle.range_key.proofs.tests.a_key_has_its_fragment.Given as goal

abbrev pub ghosts-is_at : goal.ghosts-is_at
ghosts-is_at g a = record { name = a.blank.name; parts = a.blank.parts }
