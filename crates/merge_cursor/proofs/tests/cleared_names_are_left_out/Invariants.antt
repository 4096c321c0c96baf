use Rattle.merge_cursor.proofs.tests.cleared_names_are_left_out.Given as goal

abbrev pub ghosts-walks_visible : goal.ghosts-walks_visible
ghosts-walks_visible g a = record { name = a.blank.name; parts = a.blank.parts }
