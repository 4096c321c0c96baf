use Rattle.merge_cursor.proofs.tests.parts_are_one_list.Given as goal

abbrev pub ghosts-walks_merged : goal.ghosts-walks_merged
ghosts-walks_merged g a = record { name = a.blank.name; parts = a.blank.parts }
