use Rattle.read_rule.proofs.tests.in_txn.Given as goal

abbrev pub ghosts-decides : goal.ghosts-decides
ghosts-decides a = record { name = a.blank.name; parts = a.blank.parts }
