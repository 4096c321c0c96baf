use Rattle.intent_meta.proofs.listed_tests.items_descend.Given as goal

abbrev pub ghosts-tells : goal.ghosts-tells
ghosts-tells g a = record { name = a.blank.name; parts = a.blank.parts }
