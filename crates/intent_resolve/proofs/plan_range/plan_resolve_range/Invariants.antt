use Rattle.intent_resolve.proofs.plan_range.plan_resolve_range.Given as goal

abbrev pub ghosts-plan_within : goal.ghosts-plan_within
ghosts-plan_within a = record { name = a.blank.name; parts = a.blank.parts }
