use Rattle.read_rule.proofs.tests.at_time.Given as goal

abbrev pub ghosts-decides : goal.ghosts-decides
ghosts-decides a = record { name = a.blank.name; parts = a.blank.parts }
