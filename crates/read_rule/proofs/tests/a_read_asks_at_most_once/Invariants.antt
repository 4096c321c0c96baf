use Rattle.read_rule.proofs.tests.a_read_asks_at_most_once.Given as goal

abbrev pub ghosts-asks : goal.ghosts-asks
ghosts-asks g a = record { name = a.blank.name; parts = a.blank.parts }
