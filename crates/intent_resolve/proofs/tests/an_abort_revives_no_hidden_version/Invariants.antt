use Rattle.intent_resolve.proofs.tests.an_abort_revives_no_hidden_version.Given as goal

abbrev pub ghosts-aborts : goal.ghosts-aborts
ghosts-aborts g a = record { name = a.blank.name; parts = a.blank.parts }
