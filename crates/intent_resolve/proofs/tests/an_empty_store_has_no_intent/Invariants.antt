use Rattle.intent_resolve.proofs.tests.an_empty_store_has_no_intent.Given as goal

abbrev pub ghosts-finds_nothing : goal.ghosts-finds_nothing
ghosts-finds_nothing g a = record { name = a.blank.name; parts = a.blank.parts }
