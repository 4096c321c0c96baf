-- The engine's looks are counted in a ledger of their own.
use Rattle.script_run.proofs.session.Session.command.Given as goal

abbrev pub ghosts-perform_from : goal.ghosts-perform_from
ghosts-perform_from a = record { name = a.blank.name; parts = a.blank.parts }
